-- One position on, picked, closed, or past the picks.
use Rattle.std.proofs.Common.{◌≡◌, ◌++◌, ◌+◌, ◌<◌, ◌∙◌, sym, List, ℕ, Bool, take, drop, length, reverse, subst, arith}
use Rattle.pk_disk.specs.Memory.{open_after}
use Rattle.pk_disk.specs.Crash.{crashed}
use Rattle.pk_disk.proofs.Crashes.{picked_step, shut_step, past_step}
use Rattle.pk_disk.proofs.record.put_picks.Goals as goal
use Rattle.pk_disk.proofs.record.put_picks.Goals.{then-next-picks+then-left_open, else-next-picks, else-next-picks-via-then-next-picks+else-left_open, else-next-picks-via-else-next-picks}

-- the invariant one position on
abbrev Step : (ℕ → Bool) → ℕ → List ℕ → List ℕ → List ℕ → List ℕ → ℕ → Type 0
Step is_open p first picks total bytes n = (take (p + 1) bytes ++ crashed is_open (p + 1) (drop (p + 1) first) (drop n picks) ≡ total) × (drop (p + 1) bytes ≡ drop (p + 1) first)

moved : (is_open : ℕ → Bool) (p : ℕ) (first picks total bytes bytes' : List ℕ) (n n' : ℕ) → bytes' ≡ bytes → n' ≡ n → Step is_open p first picks total bytes n → Step is_open p first picks total bytes' n'
moved is_open p first picks total bytes bytes' n n' b k step = subst (λ (m : ℕ). Step is_open p first picks total bytes' m) (sym k) (subst (λ (bs : List ℕ). Step is_open p first picks total bs n) (sym b) step)

pub loop-position-preserved : goal.loop-position-preserved
loop-position-preserved c =
    let o = open_after (reverse c.args.calls.now) in
    let p = c.loop-position.position in
    let n = c.loop-position.next in
    let first = c.args.bytes.now in
    let picks = c.args.picks.now in
    let total = crashed o 0 first picks in
    let long : length c.loop-position.bytes ≡ length first = omega arith in
    let lt : p < length c.loop-position.bytes = omega arith in
    let step : Step o p first picks total c.if-next-picks.bytes c.if-next-picks.next =
    elim c.if-next-picks.branch [
      | then-next-picks+then-left_open w ↦ moved o p first picks total _ _ _ _ w.bytes-is w.next-is (picked_step o p n c.loop-position.bytes first picks total lt long c.loop-position.invariant.done c.loop-position.invariant.rest w.if-next-picks.true (sym w.left_open.ensures ∙ w.if-left_open.true))
      | else-next-picks w ↦ elim w.else-next-picks.branch [
        | else-next-picks-via-then-next-picks+else-left_open v ↦ moved o p first picks total _ _ _ _ w.bytes-is w.next-is (shut_step o p n c.loop-position.bytes first picks total lt long c.loop-position.invariant.done c.loop-position.invariant.rest (sym v.left_open.ensures ∙ v.if-left_open.false))
        | else-next-picks-via-else-next-picks v ↦ moved o p first picks total _ _ _ _ w.bytes-is w.next-is (past_step o p n c.loop-position.bytes first picks total lt long c.loop-position.invariant.done c.loop-position.invariant.rest v.if-next-picks.false)
      ]
    ] in
    record { done = step.0; rest = step.1 }
