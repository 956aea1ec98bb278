-- A5, what is not read: "Replay starts at depth 0 on a lent bench", so nothing that the stack holds counts. On two stacks of one length the verdict, the
-- report and the depth are the same, and the stacks that are left agree below that depth.
use Rattle.std.specs.Prelude.{ℕ, zero, suc, ◌+◌, ◌≡◌, refl, List, length}
use Rattle.std.proofs.Common.{arith}
use Rattle.edition.specs.declared.Edition.TheVariants.{Shipped}
use Rattle.slots.specs.Reports.{over_limits}
use Rattle.recording.specs.Recording.{literal_in, top_in, first, later, records, not_a_recording}
use Rattle.replaying.specs.Answer.{Replayed}
use Rattle.replaying.specs.Replay.{is_push, step_of, top_of, report_differs, depth_differs, top_differs, go_on, replay_of}
use Rattle.demands.specs.Agreement.{Agree, limits_agree}
use Rattle.demands.specs.Alike.{Alike, choice}
use Rattle.demands.specs.Demand2Reads.{operations_alike, pushes_alike, views_same}

-- both answer the same, and what they leave agrees below the depth left
pub record ReplaysAlike (x x' : Replayed × List ℕ) : Type 0 where
  pub answers : x.0 ≡ x'.0
  pub leave : Agree ◌≡◌ x.0.depth x.1 x'.1

module _ (d : ℕ) (s s' : List ℕ) (a : Agree ◌≡◌ d s s') (x : List ℕ) where
  steps_alike : Alike ◌≡◌ (step_of s d x) (step_of s' d x)
  unfolding step_of
  steps_alike = choice (Alike ◌≡◌) (is_push x) (λ e. pushes_alike d s s' a (top_in x)) (λ e. operations_alike d s s' a Shipped (literal_in x))

  tops_same : top_differs x s d ≡ top_differs x s' d
  unfolding top_differs top_of
  tops_same = simp (views_same d s s' a)

-- the records that are left
rest_alike : (n : ℕ) (r : List ℕ) (i d : ℕ) (s s' : List ℕ) → Agree ◌≡◌ d s s' → ReplaysAlike (go_on n r i s d) (go_on n r i s' d)
unfolding go_on
rest_alike zero r i d s s' a = record { answers = refl; leave = a }
rest_alike (suc n) r i d s s' a =
    let h = steps_alike d s s' a (first r) in
    let o = step_of s d (first r) in
    let o' = step_of s' d (first r) in
    rw (← h.answers, ← tops_same o.0.depth o.1 o'.1 h.leave (first r))
    (choice ReplaysAlike (report_differs (first r) o.0.report) (λ e. record { answers = refl; leave = h.leave }) (λ e.
    choice ReplaysAlike (depth_differs (first r) o.0.depth) (λ g. record { answers = refl; leave = h.leave }) (λ g.
    choice ReplaysAlike (top_differs (first r) o.1 o.0.depth) (λ t. record { answers = refl; leave = h.leave }) (λ t.
    rest_alike n (later r) (i + 1) o.0.depth o.1 o'.1 h.leave))))

-- For two stacks of one length, whatever they hold.
pub replays_alike : (s s' : List ℕ) → length s ≡ length s' → (r : List ℕ) → ReplaysAlike (replay_of s r) (replay_of s' r)
unfolding replay_of
replays_alike s s' l r =
    let a : Agree ◌≡◌ 0 s s' = record { long = l; below = λ i h. absurd (omega arith) } in
    rw (← limits_agree 0 s s' a)
    (choice ReplaysAlike (over_limits s 0) (λ e. record { answers = refl; leave = a }) (λ e.
    choice ReplaysAlike (not_a_recording r) (λ g. record { answers = refl; leave = a }) (λ g.
    rest_alike (records r) r 0 0 s s' a)))
