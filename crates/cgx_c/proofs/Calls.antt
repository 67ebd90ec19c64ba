-- What a call of the writer does and answers, as it is left in lent memory. Assumes nothing.
use mathlib.Core.Path.{◌≡◌, ap, subst, ◌∙◌}
use mathlib.Core.List.{List}
use Prim.Native.Nat.{ℕ}
use Rattle.cgx_write_given.specs.declared.Writer.{Writer}
use Rattle.cgx_write_given.specs.Writing.{Answer, Outcome}
use Rattle.cgx_c_writer.specs.Lent.{writer_in, number_told, words_after, offset_told, lent, lent_start}

-- `f` is what the call does for each writer and each thing given, and P holds of what is given; the words w, `at` and the answer a become x, t and r.
module _ {G : Type 0} (f : Writer → G → Outcome) (P : G → Type 0) (w : List ℕ) (at : ℕ) (b : List ℕ) {x : List ℕ} {t r : ℕ} {a : Answer} {v : Writer} {g' g : G} where
  pub called : (r ≡ number_told a) × (x ≡ words_after w a) × (t ≡ offset_told a at) → v ≡ writer_in w → (record { answer = a; buffer = b } ≡ f v g') × P g' → g' ≡ g → (record { number = r; writer = x; at = t; buffer = b } ≡ lent w at (f (writer_in w) g)) × P g
  called s e h q = ((λ i. record { number = s.0 i; writer = s.1 i; at = s.2 i; buffer = b }) ∙ ap (lent w at) (h.0 ∙ (λ i. f (e i) (q i))), subst P q h.1)

pub begun : (o : Outcome) (w b : List ℕ) {x : List ℕ} {r : ℕ} {a : Answer} → (r ≡ number_told a) × (x ≡ words_after w a) → record { answer = a; buffer = b } ≡ o → record { number = r; writer = x; buffer = b } ≡ lent_start w o
begun o w b s h = (λ i. record { number = s.0 i; writer = s.1 i; buffer = b }) ∙ ap (lent_start w) h
