-- All that `Demands` states, proved.
use Rattle.cgx_spec.specs.Files.{verdict_of}
use Rattle.cgx_spec.specs.Demands.{Promises}
use Rattle.cgx_spec.proofs.NumberLaws.{short_back, long-back, short-bytes-back, long-bytes-back, longs-count}
use Rattle.cgx_spec.proofs.RealAnswers.{real-promises}
use Rattle.cgx_spec.proofs.Verdicts.{begin-named, steps-named}
use Rattle.cgx_spec.proofs.Truth.{truth}
use Rattle.cgx_spec.proofs.Only.{one-true}
use Rattle.cgx_spec.proofs.Steps.{reading-law}
use Rattle.cgx_spec.proofs.Demand3.{demand3}
use Rattle.cgx_spec.proofs.Agreement.{agreement}
use Rattle.cgx_spec.proofs.Specimens.{all_hold, drawing-is}
use Rattle.cgx_spec.proofs.Seconds.{seconds}

pub promises : Promises
promises =
    record {
      verdicts = record { named = begin-named; steps-named = steps-named; truth = truth; only = λ f h v t. one-true f v (verdict_of f) t (truth f h) };
      reading = reading-law;
      demand3 = demand3;
      numbers = record { short_back = short_back; long-back = long-back; short-bytes = short-bytes-back; long-bytes = long-bytes-back; longs-count = longs-count };
      reals = real-promises;
      agreement = agreement;
      specimens = all_hold;
      drawing = drawing-is;
      seconds = seconds;
    }
