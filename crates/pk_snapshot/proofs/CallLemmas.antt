-- By what several calls fail, one after another.
use Rattle.std.proofs.Common.{◌≡◌, inl, inr, ⊎_elim, ℕ, ◌+◌, ◌≤◌, Bool, false, refl, ◌∙◌, arith}
use Rattle.std.proofs.lemmas.Bool.{false≢true}
use Rattle.pk_snapshot.specs.Counted.{FailsByCalls, count_after}

-- none failed, and each of so many turns was interrupted or gave one of so many bytes
pub record GoesOn {F : Type 0} (failed interrupted : F → ℕ) (turns bytes : ℕ) (old new : F) : Type 0 where
  pub unfailed : failed new ≡ failed old
  pub turned : turns + interrupted old ≤ interrupted new + bytes
  pub later : interrupted old ≤ interrupted new

module _ {F : Type 0} (failed interrupted : F → ℕ) where
  -- a call that leaves the counts
  pub no_calls : (bytes : ℕ) (old new : F) → failed new ≡ failed old → interrupted new ≡ interrupted old → FailsByCalls failed interrupted bytes false old new
  no_calls bytes old new same times = record { answered = λ is. same; refused = λ no. absurd (false≢true no); later = omega (arith, times) }

  pub fails_then : (bytes : ℕ) (has_failed : Bool) (old mid new : F) → FailsByCalls failed interrupted bytes false old mid
      → FailsByCalls failed interrupted bytes has_failed mid new → FailsByCalls failed interrupted bytes has_failed old new
  fails_then bytes has_failed old mid new first second = record {
    answered = λ is. second.answered is ∙ first.answered refl;
    refused = λ is. ⊎_elim
        (λ last. inl (omega (arith, first.answered refl, last)))
        (λ spent. inr (spent.0 ∙ first.answered refl, omega (arith, spent.1, first.later)))
        (second.refused is);
    later = omega (arith, first.later, second.later);
  }

  -- more bytes may be given
  pub fails_within : (few many : ℕ) (has_failed : Bool) (old new : F) → few ≤ many
      → FailsByCalls failed interrupted few has_failed old new → FailsByCalls failed interrupted many has_failed old new
  fails_within few many has_failed old new room fails = record {
    answered = fails.answered;
    refused = λ is. ⊎_elim (λ last. inl last) (λ spent. inr (spent.0, omega (arith, spent.1, room))) (fails.refused is);
    later = fails.later;
  }

  -- one more turn, that was interrupted or gave a byte
  pub goes_further : (turns bytes bytes' failures times : ℕ) (old mid new : F) → GoesOn failed interrupted turns bytes old mid
      → failed new ≡ count_after (failed mid) failures → failures ≡ 0 → interrupted new ≡ interrupted mid + times → bytes + 1 ≤ times + bytes'
      → GoesOn failed interrupted (turns + 1) bytes' old new
  goes_further turns bytes bytes' failures times old mid new before count none more some = record {
    unfailed = omega (arith, before.unfailed, count, none);
    turned = omega (arith, before.turned, more, some);
    later = omega (arith, before.later, more);
  }
