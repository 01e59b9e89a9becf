-- A dictionary's bytes say which items begin with a prefix.
use Rattle.std.proofs.Common.{◌≤◌, ◌+◌, ◌*◌, ◌^◌, ℕ, length}
use Rattle.std.specs.List.{AllByRecursion}
use Rattle.pk_posting.specs.Limits.{asks_for}
use Rattle.pk_dict.specs.Dictionary.{Item, group_count}
use Rattle.pk_dict.proofs.EntriesLaw.{entries_give, entries_asked}
use Rattle.pk_dict.proofs.entries.entries_in.Goals as goal

pub returns-clause-found : goal.returns-clause-found
returns-clause-found g c h es lies d len = entries_give _ es c.args.place c.args.prefix.now _ (c.entries_any.ensures.value h) lies d len

pub returns-clause-asks : goal.returns-clause-asks
returns-clause-asks g c h es d len =
    entries_asked _ es c.args.place c.args.prefix.now c.entries_any.result
    (λ (n : ℕ). (k m : ℕ) → group_count c.args.place.terms ≤ 2 ^ k → AllByRecursion (λ (e : Item). asks_for (length e.term) ≤ m) es
    → g.S.ByteSource.asked c.entries_any.new.source ≤ g.S.ByteSource.asked c.args.source.now + (k + 1) * (6 + asks_for (length c.args.prefix.now)) + 1 + (n + 17) * (5 + m))
    (c.entries_any.ensures.value h) c.entries_any.ensures.inside (c.entries_any.ensures.asks h es d len) d len
