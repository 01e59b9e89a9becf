-- The page of a part that was read is kept as far as the part reaches.
use Rattle.std.proofs.Common.{rules, ◌≡◌, inl, ℕ, ◌+◌, ◌/◌, ◌%◌, List, length, subst}
use Rattle.pk_pages.specs.declared.slots.Slot.{Slot}
use Rattle.pk_pages.specs.Pages.{IsKept, page_bytes}
use Rattle.pk_pages.proofs.ReadLemmas.{again_one}
use Rattle.pk_pages.proofs.cache.PageCache.read_within.Goals as goal

pub returns-then-copy_kept-clause-again : goal.returns-then-copy_kept-clause-again
returns-then-copy_kept-clause-again g c was =
    let at = c.args.at in
    let n = length c.args.out.now in
    let kept = subst (λ (slots : List Slot). IsKept slots (at / page_bytes) (at % page_bytes + n)) c.deref.ensures.value (c.copy_kept.ensures.kept c.if-copy_kept.true) in
    again_one c.args.self.now.last_succeeded c.args.self.now.slots.items at n c.requires.some c.requires.within c.if-self.true (inl kept)

pub returns-clause-again : goal.returns-clause-again
returns-clause-again g c was =
    let at = c.args.at in
    let slots = c.load.new.self.slots.items in
    let long : length c.else-self.out ≡ length c.args.out.now = search rules in
    let kept = subst (λ (s : List Slot). IsKept s (at / page_bytes) (at % page_bytes + length c.else-self.out)) c.deref-2.ensures.value (c.copy_kept-copied.ensures.kept c.if-prove.false) in
    again_one c.load.new.self.last_succeeded slots at (length c.args.out.now) c.requires.some c.requires.within (search rules)
    (inl (subst (λ (n : ℕ). IsKept slots (at / page_bytes) (at % page_bytes + n)) long kept))
