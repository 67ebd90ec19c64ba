-- What the calls of each kind give is well typed where their parameters have the types of the code. Assumes nothing.
use mathlib.Core.Path.{◌≡◌, refl, ap}
use mathlib.Core.Bool.{Bool, true, false}
use mathlib.Core.List.{List, [], ◌∷◌}
use Prim.Native.Nat.{ℕ, ◌<◌}
use native.Mathlib.Omega.{arith}
use lib.IntN.{ℤ}
use Rattle.cgx_spec.specs.Fields.{any, ordered, closed, Test, Field, longs}
use Rattle.cgx_spec.specs.Kinds.{angle, magnif, array, only_if, layout}
use Rattle.cgx_format_kinds.specs.declared.Point.{Point}
use Rattle.cgx_format_kinds.specs.declared.Grid.{Grid}
use Rattle.cgx_write_given.specs.Given.{Item, eight, list, long, point, if_set, given_library, given_struct, given_owned, given_layer, given_box, given_poly, given_wire, given_text, given_sref, given_endlib}
use Rattle.cgx_write_given.specs.Typed.{Long, Longs, IsPoint, Typed, a_real, a_scale, a_date, a_short, a_list, a_text, a_name, no_name, not_there}
use Rattle.cgx_write_given.specs.Demands.{CallsPromises}

a-long : {z : ℤ} {t : Test} → Long z → Typed (longs 1 1 1 t) (long z)
a-long {z} h = let hs : Longs (z ∷ []) = (h, tt) in a_list hs (λ e. refl)

a_point : {p : Point} → IsPoint p → Typed (longs 2 1 1 any) (point p)
a_point {p} h = let hs : Longs (p.x ∷ p.y ∷ []) = (h.x, (h.y, tt)) in a_list hs (λ e. refl)

-- a field with no number of longs of its own
many : {n lo hi : ℕ} {t : Test} {zs : List ℤ} → lo < hi → Longs zs → Typed (longs n lo hi t) (list zs)
many {lo = lo} {hi = hi} l h = a_list h (λ e. absurd (let q : lo ≡ hi = e in omega arith))

if-typed : (b : Bool) {f : Field} {i : Item} → Typed f i → Typed (only_if b f) (if_set b i)
if-typed true t = t
if-typed false t = not_there

-- an item that is ignored where its flag is off
ignored : {A : Type 0} (f : A → Item) (b : Bool) {x y : A} → (b ≡ true → x ≡ y) → if_set b (f x) ≡ if_set b (f y)
ignored f true h = ap f (h refl)
ignored f false h = refl

pub calls-promises : CallsPromises
unfolding layout given_library given_struct given_owned given_layer given_box given_poly given_wire given_text given_sref given_endlib
calls-promises =
    record {
      library = λ v m u c d n hv hc hd hn. record { flags = hv; items = (a_scale, (a_scale, (a_date hc, (a_date hd, (a_text hn, tt))))) };
      struct = λ c d n hc hd hn. record { flags = omega arith; items = (a_date hc, (a_date hd, (a_text hn, tt))) };
      cprpty = λ z n hz hn. record { flags = omega arith; items = (a-long hz, (a_text hn, tt)) };
      property = λ z n hz hn. record { flags = omega arith; items = (a-long hz, (a_text hn, tt)) };
      layer = λ n d hn hd. record { flags = omega arith; items = (a_short hn, (a_short hd, (no_name, tt))) };
      named-layer = λ n d t hn hd ht. record { flags = omega arith; items = (a_short hn, (a_short hd, (a_name ht, tt))) };
      box = λ zs h. record { flags = omega arith; items = (many {n = 4} {lo = 1} {hi = 4095} {t = ordered} (omega arith) h, tt) };
      poly = λ zs h. record { flags = omega arith; items = (many {n = 2} {lo = 4} {hi = 8191} {t = closed} (omega arith) h, tt) };
      wire = λ s z zs hs hz h. record { flags = hs; items = (a-long hz, (many {n = 2} {lo = 1} {hi = 8190} {t = any} (omega arith) h, tt)) };
      text = λ fl p z t hf hp hz ht. record { flags = hf; items = (a-long hp.x, (a-long hp.y, (a-long hz, (a_text ht, tt)))) };
      sref = λ fl p a m g t hf hp hg ht.
          record {
            flags = hf;
            items = (a-long hp.x, (a-long hp.y, (if-typed (angle fl) a_real, (if-typed (magnif fl) a_scale, (if-typed (array fl) (a-long hg.cols), (if-typed (array fl) (a-long hg.rows), (if-typed (array fl) (a_point hg.across), (if-typed (array fl) (a_point hg.up), (a_text ht, tt)))))))));
          };
      endlib = record { flags = omega arith; items = tt };
      ignored = λ fl p a a' m m' g g' t ha hm hg.
          rw (ignored eight (angle fl) ha, ignored eight (magnif fl) hm, ignored (λ (x : Grid). long x.cols) (array fl) hg, ignored (λ (x : Grid). long x.rows) (array fl) hg, ignored (λ (x : Grid). point x.across) (array fl) hg, ignored (λ (x : Grid). point x.up) (array fl) hg);
    }
