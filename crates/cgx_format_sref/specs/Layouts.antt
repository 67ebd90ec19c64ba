-- The layout of an SREF by its flags: after the four bytes of the header x and y, then angle, magnif, array and name, each of them right after what is there before it. Definitions only.
use Rattle.std.specs.Prelude.{◌≡◌, Bool, true, cond, ℕ, ◌+◌, ◌%◌, ◌≤◌}
use Rattle.cgx_spec.specs.Kinds.{angle, magnif, array}
use Rattle.cgx_format_sref.specs.declared.SrefLayout.{SrefLayout}

abbrev pub magnif_offset : Bool → ℕ
magnif_offset a = cond a 20 12

abbrev pub array_offset : Bool → Bool → ℕ
array_offset a m = cond m (magnif_offset a + 8) (magnif_offset a)

abbrev pub name_offset : Bool → Bool → Bool → ℕ
name_offset a m r = cond r (array_offset a m + 24) (array_offset a m)

abbrev pub sref_layout : ℕ → SrefLayout
sref_layout fl =
    record {
      turned = angle fl;
      scaled = magnif fl;
      repeated = array fl;
      magnif = magnif_offset (angle fl);
      array = array_offset (angle fl) (magnif fl);
      name = name_offset (angle fl) (magnif fl) (array fl);
    }

-- The fields lie one after another, and each that is there has its room.
pub record Laid (l : SrefLayout) : Type 0 where
  pub first : 12 ≤ l.magnif
  pub second : l.magnif ≤ l.array
  pub third : l.array ≤ l.name
  pub last : l.name ≤ 52
  pub even : l.name % 2 ≡ 0
  pub angle-in : l.turned ≡ true → 20 ≤ l.magnif
  pub magnif-in : l.scaled ≡ true → l.magnif + 8 ≤ l.array
  pub array-in : l.repeated ≡ true → l.array + 24 ≤ l.name
