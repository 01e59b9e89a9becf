-- What comes next is the segment with what is pending in the run, and no list.
use Rattle.std.proofs.Common.{◌≡◌, ◌+◌, ◌-◌, arith, drop, refl, subst, take}
use Rattle.pk_manifest.specs.Spelling.{view}
use Rattle.pk_layout.specs.declared.next.Next.{Next}
use Rattle.pk_layout.specs.Next.{HasPending}
use Rattle.pk_layout.proofs.MergedLemmas.{merge_planned}
use Rattle.pk_layout.proofs.merging.plan_merged.Goals as goal

pub returns : goal.returns
returns c =
    let os = c.args.opened.now in
    let from = c.args.run.from in
    let segment = c.in_ok-next_segment.field-0 in
    let same : (from + c.args.run.count) - from ≡ c.args.run.count = omega arith in
    let has = subst (λ n. HasPending (take n (drop from os)) c.args.new segment) same c.in_ok-next_segment.ensures in
    let x : Next = record { run = c.args.run; segment = segment; lists = c.new.result; next_number = c.args.manifest.now.next_number } in
    merge_planned (view c.args.manifest.now) os c.requires.same x refl c.new.ensures.items c.args.new has c.in_ok-plan.field-0 c.in_ok-plan.ensures
