-- What `all` over chunks of a list says of each chunk. Assumes nothing.
use mathlib.Core.Path.{◌≡◌, refl, sym, ap, ◌∙◌}
use mathlib.Core.Logic.{inl, inr}
use mathlib.Core.Bool.{Bool, true, false}
use mathlib.Core.List.{List}
use Prim.Native.Nat.{ℕ, ◌+◌, ◌*◌, ◌/◌, ◌≤◌, ◌<◌}
use native.Mathlib.Omega.{arith}
use lib.ListN.{length, take, drop}
use denote.Param.Members.{Mut}
use denote.Ref.{Bor}
use Rattle.std.specs.Prelude.{Option, Some, None, IsSomeAnd}
use Rattle.std.specs.Bool.{MatchBool}
use Rattle.std.specs.Fn.{Called}
use Rattle.std.specs.List.{slice_get}
use Rattle.std.specs.Iterator.Runs.{Run, YieldsRun, CallKeepsClosure, AllItemsGive, AnyItemGives, IsChunksExactRun}
use Rattle.std.proofs.lemmas.Option.{slice_get_cases}

-- The run p goes over the chunks of n elements of xs, and the closure f answers the test t of each.
module _ {S A F : Type 0} {steps : S → Option (Bor (List A)) → S → Type 0} (g : Mut F (Bor (List A) × Unit {0}) Bool) (f : F) (p : Run steps) (t : List A → Bool) (n : ℕ) (xs : List A) where
  abbrev pub chunk : ℕ → List A
  chunk k = take n (drop (k * n) xs)

  pub record Tests : Type 0 where
    pub some : 0 < n
    pub keeps : CallKeepsClosure g f
    pub answers : (x : Bor (List A)) (r : Bool) → length x.now ≡ n → Called g f (x, tt) r f → r ≡ t x.now
    pub run : IsChunksExactRun p n xs

  module _ (h : Tests) where
    at : (k : ℕ) → p.at k ≡ slice_get p.items k
    unfolding YieldsRun
    at k = p.gave.1 k

    tested : (r : Bool) (k : ℕ) (x : Bor (List A)) → p.at k ≡ Some x → Called g f (x, tt) r f → t (chunk k) ≡ r
    tested r k x e q = let i = rw e at (h.run.2 k) in sym (h.answers x r i.0 q ∙ ap t i.2.0)

    pub each : (r : Bool) → MatchBool r ((p.whole ≡ true) × AllItemsGive p g f true) (AnyItemGives p g f false) → MatchBool r ((k : ℕ) → k < length xs / n → t (chunk k) ≡ true) ((k : ℕ) × (k * n + n ≤ length xs) × (t (chunk k) ≡ false))
    each true m = λ k l. go k l (p.at k) refl
      where
        go : (k : ℕ) → k < length xs / n → (o : Option (Bor (List A))) → p.at k ≡ o → t (chunk k) ≡ true
        go k l (Some x) e = tested true k x e (rw e at (m.1 h.keeps k))
        go k l None e =
            let len : p.len ≡ length xs / n = h.run.1 m.0 in
            let long : p.len ≡ length p.items = p.long in
            elim (slice_get_cases p.items k).1 [ inl i ↦ (let q : None ≡ Some i.0 = sym e ∙ at k ∙ i.2 in cc) | inr i ↦ absurd (omega (arith, i.0)) ]
    each false m = let a = m h.keeps in go a.0 a.1 (p.at a.0) refl a.2
      where
        go : (k : ℕ) → k < p.len → (o : Option (Bor (List A))) → p.at k ≡ o → IsSomeAnd o (λ x. Called g f (x, tt) false f) → (k : ℕ) × (k * n + n ≤ length xs) × (t (chunk k) ≡ false)
        go k l (Some x) e q = let i = rw e at (h.run.2 k) in (k, i.1, tested false k x e q)
        go k l None e q = absurd q
