-- A good record of a known kind can be read, and its view is the one that the definitions give. Assumes nothing.
use Rattle.std.specs.Prelude.{None, Option, Some}
use Rattle.std.specs.Bool.{then_some}
use mathlib.Core.Path.{◌≡◌, refl, sym, ap, ◌∙◌, subst}
use mathlib.Core.Bool.{Bool, true, false, cond, not}
use mathlib.Core.List.{List}
use Prim.Native.Nat.{ℕ, ◌+◌}
use lib.ListN.{get_or}
use Rattle.cgx_spec.specs.declared.Kind.{Kind}
use Rattle.cgx_spec.specs.declared.Run.{Run}
use Rattle.cgx_spec.specs.declared.Context.{Context}
use Rattle.cgx_spec.specs.Fields.{pieces, values}
use Rattle.cgx_spec.specs.Kinds.{kind_of, layout}
use Rattle.cgx_spec.specs.Order.{allowed, is_object, next}
use Rattle.cgx_spec.specs.Records.{broken, rules, pieces_of, context_after, view_of}
use Rattle.cgx_spec.specs.Walking.{rec_at}
use Rattle.cgx_format_kinds.specs.declared.Fields.{Fields}
use Rattle.cgx_format_kinds.specs.Meant.{field_values, view_meant}
use Rattle.cgx_spec.proofs.Normal.{rules-kept}
use Rattle.cgx_format_cursor.specs.declared.State.{State}
use Rattle.cgx_format_cursor.specs.Cursors.{offset_in, run_in, context_in}
use Rattle.cgx_read_fields.specs.Views.{Readable}
use Rattle.cgx_read_views.specs.RecordViews.{Found, taken_by}

-- what `then_some` gives where 0 is none
pub unless : {A : Type 0} (none : Bool) (x : A) → then_some (not none) x ≡ cond none None (Some x)
unless true x = refl
unless false x = refl

module _ {f : List ℕ} {c : Context} {at n : ℕ} {k : Kind} {fl : ℕ} (h : Found f c at n k fl) where
  pub readable : Readable k fl f at n
  unfolding rec_at pieces_of
  readable =
      let r = rec_at f at n in
      let e : broken (rules (allowed c (Some k)) (Some k) r) ≡ None = subst (λ (o : Option Kind). broken (rules (allowed c o) o r) ≡ None) h.kind-is h.good.kept in
      let p = rules-kept (allowed c (Some k)) k r e in
      subst (λ (x : ℕ). Readable k x f at n) (sym h.flags-is) (record { held = h.good.held; fits = p.0; texts = p.1 })

-- only an object has a run
run-taken : (b : Bool) (first count : ℕ) → run_in first (cond b count 0) ≡ cond b (run_in first count) None
unfolding run_in
run-taken true first count = refl
run-taken false first count = refl

-- the view of a record from byte b of the memory m on
pub view-is : (m : List ℕ) (b : ℕ) (s after : State) (at n : ℕ) (k : Kind) (fl : ℕ) → Found m (context_in s) b n k fl → context_in after ≡ next (context_in s) at (Some k)
    → (fs : Fields) (cell layer : Option ℕ) (run : Option Run) → field_values m fs ≡ values (pieces (layout k fl) (rec_at m b n).body) → cell ≡ offset_in after.cell → layer ≡ offset_in after.layer → run ≡ run_in s.first (taken_by k s.count)
    → view_meant m (record { kind = k; flags = fl; fields = fs; at = at; cell = cell; layer = layer; run = run }) ≡ view_of k (record { at = at; context = context_in s; rec = rec_at m b n })
unfolding view_meant view_of rec_at pieces_of context_after context_in
view-is m b s after at n k fl h a fs cell layer run e ec el r =
    let q : context_in after ≡ next (context_in s) at (kind_of (get_or m (b + 2) 0)) = a ∙ ap (next (context_in s) at) (sym h.kind-is) in
    let w = e ∙ ap (λ (x : ℕ). values (pieces (layout k x) (rec_at m b n).body)) h.flags-is in
    let oc = ec ∙ ap (λ (x : Context). x.cell) q in
    let ol = el ∙ ap (λ (x : Context). x.layer) q in
    λ i. record { kind = k; flags = h.flags-is i; fields = w i; at = at; cell = oc i; layer = ol i; run = (r ∙ run-taken (is_object k) s.first s.count) i }
