-- The view as a part of the stack, a law a case.
use Rattle.std.specs.Prelude.{ℕ, ◌-◌, ◌*◌, ◌≤◌, ◌≡◌, refl, Bool, true, false, List, [], ◌∷◌, length, take, drop}
use Rattle.std.proofs.Common.{sym, ◌∙◌, ap, arith, length-take, length-drop}
use Rattle.slots.specs.Reach.{lacking}
use Rattle.slots.specs.ReachLaws.{has}
use Rattle.slots.specs.View.{view_of}
use Rattle.slots.specs.ViewLaws.{view_empty, view_top}
use Rattle.trenailer.specs.Told.{start_of, Part}

nothing : (xs : List ℕ) → length xs ≡ 0 → xs ≡ []
nothing [] h = refl
nothing (x ∷ xs) h = absurd (omega arith)

begins_at_top : (xs : List ℕ) (d was : ℕ) → (length xs ≡ 0 → ⊥) → start_of xs d was ≡ 5 * (d - 1)
unfolding start_of
begins_at_top [] d was h = absurd (h refl)
begins_at_top (x ∷ xs) d was h = refl

-- What holds where there is a view: the depth is not 0, and the stack holds that many slots.
pub record Seen (s : List ℕ) (d : ℕ) : Type 0 where
  pub some : d ≡ 0 → ⊥
  pub fits : 5 * d ≤ length s
  pub bytes : view_of s d ≡ take 5 (drop (5 * (d - 1)) s)

module _ (s : List ℕ) (d : ℕ) (h : length (view_of s d) ≡ 0 → ⊥) where
  pub seen : Seen s d
  seen = go (lacking s d 1) refl
    where
      go : (b : Bool) → lacking s d 1 ≡ b → Seen s d
      go true l = absurd (h (ap length (view_empty s d l)))
      go false l = let e = has s d 1 l in record { some = omega (arith, e); fits = e.0.deep; bytes = view_top s d l }

  pub part_seen : (was : ℕ) → Part s d was 5 (5 * (d - 1))
  part_seen was =
      record {
        count = sym (ap length seen.bytes ∙ simp (length-take, length-drop) (omega (arith, seen)));
        begins = sym (begins_at_top (view_of s d) d was h);
        bytes = sym seen.bytes;
      }

pub part_empty : (s : List ℕ) (d was : ℕ) → length (view_of s d) ≡ 0 → Part s d was 0 was
unfolding start_of
part_empty s d was h =
    let e : view_of s d ≡ [] = nothing (view_of s d) h in
    record { count = sym h; begins = simp e; bytes = sym e }
