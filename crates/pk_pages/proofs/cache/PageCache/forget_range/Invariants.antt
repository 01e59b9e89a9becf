-- The pages up to here are gone, and nothing else of the cache changes.
use Rattle.std.proofs.Common.{◌≡◌, ◌⊎◌, ◌≤◌, ◌<◌, ◌/◌, ℕ}
use Rattle.pk_pages.specs.Pages.{IsGone, IsKept, page_bytes}
use Rattle.pk_pages.proofs.cache.PageCache.forget_range.Given as goal

abbrev pub invariant-loop-number : goal.invariant-loop-number
invariant-loop-number g l = record {
  disk : l.self.disk ≡ l.initial.self.disk;
  missed : l.self.missed ≡ l.initial.self.missed;
  last_succeeded : l.self.last_succeeded ≡ l.initial.self.last_succeeded;
  gone : (p : ℕ) → l.at / page_bytes ≤ p → p < l.number → IsGone l.self.slots.items p;
  others : (p k : ℕ) → (p < l.at / page_bytes) ⊎ (l.number ≤ p) → IsKept l.initial.self.slots.items p k → IsKept l.self.slots.items p k;
}
