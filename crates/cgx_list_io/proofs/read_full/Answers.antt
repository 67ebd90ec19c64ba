-- The bytes of a read come behind those that were read before.
use Rattle.std.proofs.Common.{◌≡◌, ℕ, ◌+◌, ◌≤◌, List, ◌++◌, length, take, sym, ap, ◌∙◌, subst, rules}
use Rattle.std.proofs.Math.Seq.{take-append-add}
use Rattle.std.proofs.lemmas.List.{length-take-le, take-append-le}
use Rattle.std.proofs.KnownBytes.{Consumes-trans}
use Rattle.std.specs.Io.KnownBytes.{Consumes}
use Rattle.cgx_list_io.proofs.read_full.Goals as goal

-- What a read put in the middle of a buffer, as part of the buffer's beginning.
front : (a n : ℕ) (xs ys after : List ℕ) → a ≤ length xs → n ≤ length ys → take (a + n) (take a xs ++ (ys ++ after)) ≡ take a xs ++ take n ys
front a n xs ys after p q =
    ap (λ m. take (m + n) (take a xs ++ (ys ++ after))) (sym (length-take-le a xs p))
    ∙ take-append-add (take a xs) (ys ++ after) n
    ∙ ap (λ l. take a xs ++ l) (take-append-le n ys after q)

pub loop-done-preserved : goal.loop-done-preserved
loop-done-preserved g c = record {
  inside = search rules;
  bytes =
      subst (Consumes _ _)
      (sym (front c.loop-done.done c.in-Ok.n c.loop-done.buf c.read.new.buf _ c.loop-done.invariant.inside c.in-Ok.ensures.bound.0))
      (Consumes-trans _ _ _ _ _ c.loop-done.invariant.bytes c.in-Ok.ensures.bytes.0);
}
