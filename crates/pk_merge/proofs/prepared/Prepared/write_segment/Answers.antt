-- Two halves of a segment: header, directory and texts, and then the index.
use Rattle.std.proofs.Common.{◌≡◌, ◌∙◌, ◌≤◌, ◌+◌, ◌*◌, ◌++◌, List, ℕ, Bool, length, sym, ap, subst, arith, length-append}
use Rattle.std.specs.Prelude.{All}
use Rattle.pk_join.specs.declared.input.MergeInput.{MergeInput}
use Rattle.pk_join.specs.Inputs.{SpellsInputs}
use Rattle.pk_replace.specs.Cause.{IsUndamaged}
use Rattle.pk_replace.specs.Writing.{WritesOnly}
use Rattle.pk_segment.specs.Indexed.{postings}
use Rattle.pk_segment.specs.Spelling.{texts}
use Rattle.pk_state.specs.Committed.{Stored, live_in}
use Rattle.pk_merge.specs.declared.kept.Kept.{Kept}
use Rattle.pk_merge.specs.Keeping.{AreKept, EndBy, KeptApart}
use Rattle.pk_merge.specs.Lists.{AreWithin}
use Rattle.pk_merge.specs.Output.{AreGiven}
use Rattle.pk_merge.specs.Prepared.{CanMerge, IsPrepared}
use Rattle.pk_merge.proofs.FaultLemmas.{passed_on}
use Rattle.pk_merge.proofs.GivenLemmas.{are_given_next, spells_stays}
use Rattle.pk_merge.proofs.OutputLemmas.{stretch_then, writes_next}
use Rattle.pk_merge.proofs.StreamLemmas.{all_bytes, apart_there, ends_with, flushed, fresh_given, front_fits, lists_within, places_are, two_lengths}
use Rattle.pk_merge.proofs.prepared.Prepared.write_segment.Given as given
use Rattle.pk_merge.proofs.prepared.Prepared.write_segment.Goals as goal
use Rattle.pk_merge.proofs.prepared.Prepared.write_segment.Goals.{After-write_index}

pub write_front-requires-clause-apart : goal.write_front-requires-clause-apart
write_front-requires-clause-apart g c =
    let o = c.over-output.result in
    let fresh = c.over-output.ensures in
    let size = c.args.self.size in
    let start : o.start ≡ 512 * c.args.first = omega (arith, fresh.start_is, c.from-start.ensures) in
    let end : o.end ≡ 512 * c.args.first + size =
    omega (arith, fresh.end_is, c.from-start.ensures, c.from.ensures) in
    let apart = apart_there c.requires.0 (512 * c.args.first) (512 * c.args.first + size) o.start o.end
    start end c.requires.1.apart in
    subst (λ (ks : List Kept). All (KeptApart o.start o.end) ks) (sym c.deref-2.ensures.value)
    (c.requires.1.ready.2 o.start o.end apart)

pub write_front-requires-clause-inside : goal.write_front-requires-clause-inside
write_front-requires-clause-inside g c =
    let self = c.args.self in
    subst (λ (n : ℕ). All (EndBy n) c.deref-2.result.now) c.requires.1.ready.0
    (subst (All (EndBy self.disk_bytes)) (sym c.deref-2.ensures.value) self.inside)

pub write_index-requires-clause-within : goal.write_index-requires-clause-within
write_index-requires-clause-within g c =
    let lists = c.args.self.lists in
    subst (λ (n : ℕ). AreWithin n lists) (sym c.in_ok-write_front.ensures.given.writes.size)
    (lists_within _ c.requires.0 lists c.requires.1.ready.1 c.requires.1.inside)

pub returns-in_err-write_front-clause-undamaged : goal.returns-in_err-write_front-clause-undamaged
returns-in_err-write_front-clause-undamaged g c = λ honest inputs stored can spells is.
    let docs = live_in stored in
    let kept = subst (λ (ks : List Kept). AreKept (g.D.Disk.content c.args.disk.now) ks docs)
    (sym c.deref-2.ensures.value) is.kept in
    let room = front_fits docs c.deref.result.now c.args.self.dictionary.items c.over-output.result _ _
    (c.deref.ensures.value ∙ is.front_is) is.dictionary_is (c.from.ensures ∙ is.size_is)
    c.over-output.ensures in
    passed_on IsUndamaged c.from_residual.result c.from_residual.ensures.1
    (c.in_err-write_front.ensures.bytes honest docs kept room).undamaged

-- both halves are given, or something failed
both : (g : given.Over) (c : goal.After-write_index g) → g.D.Disk.honest → (inputs : List MergeInput)
    (stored : List Stored)
    → CanMerge (length (g.D.Disk.content c.args.disk.now)) c.args.first inputs c.args.self
    → SpellsInputs (g.D.Disk.content c.args.disk.now) inputs stored
    → IsPrepared (g.D.Disk.content c.args.disk.now) inputs stored c.args.self
    → AreGiven g.D.Disk c.args.disk.now c.write_index.new.disk c.over-output.result
    c.write_index.new.output ((c.deref.result.now ++ texts (live_in stored))
    ++ (postings (live_in stored) ++ c.deref-3.result.now)) c.write_index.result
both g c honest inputs stored can spells is =
    let content = g.D.Disk.content in
    let self = c.args.self in
    let docs = live_in stored in
    let o = c.over-output.result in
    let fresh = c.over-output.ensures in
    let front = c.deref.ensures.value ∙ is.front_is in
    let kept = subst (λ (ks : List Kept). AreKept (content c.args.disk.now) ks docs)
    (sym c.deref-2.ensures.value) is.kept in
    let room = front_fits docs c.deref.result.now self.dictionary.items o _ _ front is.dictionary_is
    (c.from.ensures ∙ is.size_is) fresh in
    let one = c.in_ok-write_front.ensures.bytes honest docs kept room in
    let first = c.in_ok-write_front.ensures.given in
    let p = c.write_front.new.output in
    let start : p.start ≡ 512 * c.args.first =
    omega (arith, first.stretch.start, fresh.start_is, c.from-start.ensures) in
    let end : p.end ≡ 512 * c.args.first + self.size =
    omega (arith, first.stretch.end, fresh.end_is, c.from-start.ensures, c.from.ensures) in
    let apart = apart_there inputs (512 * c.args.first) (512 * c.args.first + self.size) p.start
    p.end start end can.apart in
    let before = apart_there inputs p.start p.end o.start o.end (sym first.stretch.start)
    (sym first.stretch.end) apart in
    let here = spells_stays (content c.args.disk.now) (content c.write_front.new.disk) inputs
    stored o.start o.end first.writes.size (first.writes.changed honest).same before spells in
    let words = c.deref-3.ensures.value ∙ is.dictionary_is in
    let more : p.at + p.filled + length (postings docs ++ c.deref-3.result.now) ≤ p.end =
    omega (
      arith,
      two_lengths docs c.deref.result.now c.deref-3.result.now front words,
      is.size_is,
      one.count,
      fresh.at_is,
      fresh.end_is,
      fresh.none_held,
      first.stretch.end,
      c.from.ensures,
    ) in
    are_given_next g.D.Disk c.args.disk.now c.write_front.new.disk c.write_index.new.disk o p
    c.write_index.new.output (c.deref.result.now ++ texts docs) (postings docs ++ c.deref-3.result.now)
    c.in_ok-write_front.field-0 c.write_index.result one
    (c.write_index.ensures.bytes honest inputs stored is.lists_are can.ready.1 here apart more)

pub returns-in_err-write_index-clause-undamaged : goal.returns-in_err-write_index-clause-undamaged
returns-in_err-write_index-clause-undamaged g c = λ honest inputs stored can spells is.
    let a = (goal.at.returns-in_err-write_index-clause-undamaged g c).After-write_index in
    passed_on IsUndamaged c.from_residual-in_err-write_index.result
    c.from_residual-in_err-write_index.ensures.1
    (subst IsUndamaged c.in_err-write_index.was (both g a honest inputs stored can spells is).undamaged)

pub returns-clause-writes : goal.returns-clause-writes
returns-clause-writes g c =
    let d = g.D.Disk in
    let o = c.over-output.result in
    let fresh = c.over-output.ensures in
    let first = c.in_ok-write_front.ensures.given in
    let second = c.in_ok-write_index.ensures.given in
    let p = c.write_front.new.output in
    let q = c.write_index.new.output in
    let both = writes_next d o p c.args.disk.now c.write_front.new.disk c.write_index.new.disk first.stretch
    first.writes second.writes in
    let all = writes_next d o q c.args.disk.now c.write_index.new.disk c.finish.new.disk
    (stretch_then o p q first.stretch second.stretch) both c.finish.ensures.writes in
    subst (λ (touched : ℕ → Bool). WritesOnly d touched c.args.disk.now c.finish.new.disk)
    (places_are o (512 * c.args.first) c.args.self.size (omega (arith, fresh.start_is, c.from-start.ensures))
    (omega (arith, fresh.end_is, c.from-start.ensures, c.from.ensures))) all

pub returns-clause-there : goal.returns-clause-there
returns-clause-there g c = λ honest inputs stored can spells is.
    let content = g.D.Disk.content in
    let docs = live_in stored in
    let o = c.over-output.result in
    let fresh = c.over-output.ensures in
    let q = c.write_index.new.output in
    let xs = c.deref.result.now ++ texts docs in
    let ys = postings docs ++ c.deref-3.result.now in
    let front = c.deref.ensures.value ∙ is.front_is in
    let words = c.deref-3.ensures.value ∙ is.dictionary_is in
    let all = subst (AreGiven g.D.Disk c.args.disk.now c.write_index.new.disk o q (xs ++ ys))
    c.in_ok-write_index.was
    (both g (goal.at.returns-clause-there g c).After-write_index honest inputs stored can spells is) in
    let bytes = all.given_are
    ∙ ap (λ (l : List ℕ). l ++ (xs ++ ys)) (fresh_given (content c.args.disk.now) _ _ o fresh)
    ∙ all_bytes docs c.deref.result.now c.deref-3.result.now front words in
    let first = c.in_ok-write_front.ensures.given.stretch in
    let second = c.in_ok-write_index.ensures.given.stretch in
    flushed c.finish.result (content c.write_index.new.disk) (content c.finish.new.disk) _ q c.finish.new.self
    (512 * c.args.first) c.args.self.size
    (c.finish.ensures.given honest) c.finish.ensures.empty c.finish.ensures.count
    (omega (
      arith,
      c.finish.ensures.stretch.start,
      second.start,
      first.start,
      fresh.start_is,
      c.from-start.ensures,
    )) bytes
    (omega (
      arith,
      all.count,
      length-append xs ys,
      two_lengths docs c.deref.result.now c.deref-3.result.now front words,
      is.size_is,
      fresh.at_is,
      fresh.start_is,
      fresh.none_held,
      second.start,
      first.start,
    ))

pub returns-clause-undamaged : goal.returns-clause-undamaged
returns-clause-undamaged g c = λ honest inputs stored can spells is.
    let docs = live_in stored in
    let fresh = c.over-output.ensures in
    let xs = c.deref.result.now ++ texts docs in
    let ys = postings docs ++ c.deref-3.result.now in
    let all = subst (AreGiven g.D.Disk c.args.disk.now c.write_index.new.disk c.over-output.result c.write_index.new.output (xs ++ ys))
    c.in_ok-write_index.was
    (both g (goal.at.returns-clause-undamaged g c).After-write_index honest inputs stored can spells is) in
    c.finish.ensures.undamaged
    (omega (
      arith,
      all.count,
      length-append xs ys,
      two_lengths docs c.deref.result.now c.deref-3.result.now (c.deref.ensures.value ∙ is.front_is) (c.deref-3.ensures.value ∙ is.dictionary_is),
      is.size_is,
      fresh.at_is,
      fresh.end_is,
      fresh.none_held,
      c.from.ensures,
      c.in_ok-write_front.ensures.given.stretch.end,
      c.in_ok-write_index.ensures.given.stretch.end,
    ))

pub returns-clause-whole : goal.returns-clause-whole
returns-clause-whole g c = λ honest.
    let content = g.D.Disk.content in
    let fresh = c.over-output.ensures in
    let q = c.write_index.new.output in
    let first = c.in_ok-write_front.ensures.given.stretch in
    let second = c.in_ok-write_index.ensures.given.stretch in
    let last = c.in_ok-write_index.ensures.last honest in
    let start : q.start ≡ 512 * c.args.first = omega (arith, second.start, first.start, fresh.start_is, c.from-start.ensures) in
    let end : q.end ≡ 512 * c.args.first + c.args.self.size = omega (arith, second.end, first.end, fresh.end_is, c.from-start.ensures, c.from.ensures) in
    ends_with c.finish.result (content c.write_index.new.disk) (content c.finish.new.disk) last.0 c.args.self.dictionary.items q c.finish.new.self
    (512 * c.args.first) c.args.self.size
    (c.finish.ensures.given honest) c.finish.ensures.empty c.finish.ensures.count
    (c.finish.ensures.stretch.start ∙ start)
    (last.1 ∙ ap (λ (l : List ℕ). last.0 ++ l) c.deref-3.ensures.value) start end c.finish.ensures.whole
