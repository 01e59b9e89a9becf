-- A read of kept pages makes no call below, and of two parts each is kept or noted.
use Rattle.std.proofs.Common.{rules, ◌≡◌, ◌+◌, ◌-◌, ◌/◌, ◌%◌, ◌∙◌, sym, subst, true, false, length}
use Rattle.std.specs.Prelude.{OnOk, Ok, Err}
use Rattle.std.proofs.lemmas.Result.{on_ok_weaker}
use Rattle.pk_pages.specs.Pages.{IsKept, page_bytes}
use Rattle.pk_pages.specs.Missed.{AreKeptOrNoted}
use Rattle.pk_pages.proofs.MissLemmas.{first_part, noted_two, second_part}
use Rattle.pk_pages.proofs.ReadLemmas.{again_two, hit_part}
use Rattle.pk_pages.proofs.cache.PageCacheDisk.read.Goals as goal

pub returns-then-out-here-clause-hit : goal.returns-then-out-here-clause-hit
returns-then-out-here-clause-hit g c hit =
    let n = length c.args.out.now in
    c.read_within.ensures.hit hit.succeeded (hit_part _ c.args.self.now.slots.items c.args.at n hit c.args.at n (search rules) (search rules) (search rules) (search rules))

pub returns-in_err-read_within-clause-hit : goal.returns-in_err-read_within-clause-hit
returns-in_err-read_within-clause-hit g c hit =
    let n = length c.args.out.now in
    let front = length c.split_at_mut-front.result.0.now in
    let kept = c.in_err-read_within.ensures.hit hit.succeeded (hit_part _ c.args.self.now.slots.items c.args.at n hit c.args.at front (search rules) (search rules) (search rules) (search rules)) in
    absurd (let no : false ≡ true = kept.0 in cc)

pub returns-clause-hit : goal.returns-clause-hit
returns-clause-hit g c hit =
    let n = length c.args.out.now in
    let front = length c.split_at_mut-front.result.0.now in
    let back = length c.split_at_mut-front.result.1.now in
    let next = c.args.at + (page_bytes - c.args.at % page_bytes) in
    let slots = c.args.self.now.slots.items in
    let first = c.in_ok-read_within.ensures.hit hit.succeeded (hit_part _ slots c.args.at n hit c.args.at front (search rules) (search rules) (search rules) (search rules)) in
    let kept = hit_part _ slots c.args.at n hit next back (search rules) (search rules) (search rules) (search rules) in
    let second = c.read_within-3.ensures.hit (subst (λ s. s.last_succeeded ≡ true) (sym first.1) hit.succeeded) (subst (λ s. IsKept s.slots.items (next / page_bytes) (next % page_bytes + back)) (sym first.1) kept) in
    (second.0, second.1 ∙ first.1)

pub returns-clause-again : goal.returns-clause-again
returns-clause-again g c some few to_be =
    let n = length c.args.out.now in
    let front = length c.split_at_mut-front.result.0.now in
    let back = length c.split_at_mut-front.result.1.now in
    let next = c.args.at + (page_bytes - c.args.at % page_bytes) in
    let before = c.args.self.now in
    let between = c.read_within-2.new.self in
    let read = c.in_ok-read_within.ensures in
    let first = first_part before.slots.items before.missed.items c.args.at n front to_be (search rules) (search rules) (search rules) in
    let second = second_part before.slots.items between.slots.items before.missed.items between.missed.items c.args.at next n back to_be before.places read.others read.notes (search rules) (search rules) (search rules) (search rules) in
    on_ok_weaker c.read_within-3.result
    (λ kept. again_two _ _ between.slots.items c.read_within-3.new.self.slots.items c.args.at next front back n (read.again first) kept c.read_within-3.ensures.others (search rules) (search rules) (search rules) (search rules))
    (c.read_within-3.ensures.again second)

pub returns-clause-noted : goal.returns-clause-noted
returns-clause-noted g c some few =
    let n = length c.args.out.now in
    let front = length c.split_at_mut-front.result.0.now in
    let back = length c.split_at_mut-front.result.1.now in
    let next = c.args.at + (page_bytes - c.args.at % page_bytes) in
    let between = c.read_within-2.new.self in
    let after = c.read_within-3.new.self in
    let read = c.read_within-3.ensures in
    elim c.read_within-3.result as (λ r. OnOk r (AreKeptOrNoted after.slots.items after.missed.items c.args.at n)) [
      | Ok _ ↦ noted_two between.slots.items after.slots.items between.missed.items after.missed.items c.args.at next front back n c.in_ok-read_within.ensures.noted read.noted between.places read.others read.notes (search rules) (search rules) (search rules) (search rules) few
      | Err _ ↦ tt
    ]
