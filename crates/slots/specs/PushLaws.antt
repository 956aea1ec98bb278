-- What a push with room finds, of which its laws speak (proofs/PushLaws).
use Rattle.std.specs.Prelude.{◌≡◌, ℕ, ◌+◌, ◌-◌, ◌*◌, ◌%◌, ◌^◌, ◌≤◌, false, List, length}
use Rattle.slots.specs.Reports.{over_limits}

-- The depth after a push is a machine word, which may have wrapped.
module _ (s : List ℕ) (d after : ℕ) (e : after ≡ (d + 1) % 2 ^ 64) where
  pub record Room : Type 0 where
    pub limits : over_limits s d ≡ false
    pub fits : 5 * (d + 1) ≤ length s
    pub next : after ≡ d + 1
    pub slot : d ≡ after - 1
