-- One input more has its word read; those that are passed over have theirs.
use Rattle.std.proofs.Common.{◌∙◌, inl, inr, ◌<◌, ◌≤◌, ◌+◌, ℕ, List, length, get_or, set, sym, ap, subst, arith, rules}
use Rattle.std.specs.Prelude.{All}
use Rattle.std.proofs.lemmas.Bool.{cases_lt}
use Rattle.std.proofs.lemmas.List.{length-map}
use Rattle.std.proofs.lemmas.List.Elements.{All-set, AllWithin-more_set}
use Rattle.std.proofs.lemmas.Result.{err_from_is_err_and}
use Rattle.pk_disk.specs.Units.{start_of}
use Rattle.pk_disk.specs.declared.units.Extent.{Extent}
use Rattle.pk_join.specs.Inputs.{SpellsInputs}
use Rattle.pk_join.specs.Listed.{source_of}
use Rattle.pk_join.specs.Rooms.{IsNoRefusal, IsRoomy}
use Rattle.pk_join.specs.WalkInput.{Holds, IsRead}
use Rattle.pk_join.specs.Walking.{stored_at}
use Rattle.pk_join.specs.declared.walk_input.Input.{Input}
use Rattle.pk_join.proofs.StandLemmas.{all_stay, given_at, is_read, keys_set, nowhere_none, nowhere_set, part_same}
use Rattle.pk_segment.specs.Reading.{IsNoDamage}
use Rattle.pk_posting.specs.declared.fault.ReadFault.{ReadFault}
use Rattle.pk_join.proofs.walking.read_heads.Goals as goal

pub loop-i-init : goal.loop-i-init
loop-i-init g c =
    let is = c.args.inputs.now in
    let next = c.next_within-i.ensures in
    let long = ap length c.requires.keys ∙ length-map is (λ (z : Input). z.key) in
    record {
      within = omega (arith, next.within.1, long);
      left = search rules;
      read = λ k d le lt. is_read is c.args.keys.now k d c.requires.keys (omega (arith, lt, next.within.1, long)) (next.passed k le lt);
      still = nowhere_none is;
      keys = c.requires.keys;
      hold = λ honest hold. hold;
      rooms = λ bytes rooms. rooms;
    }

pub set-requires : goal.set-requires
set-requires g c =
    omega (
      arith,
      c.loop-i-test.true,
      ap length c.loop-i.invariant.keys,
      length-map c.loop-i.inputs (λ (z : Input). z.key),
    )

pub read-read-requires : goal.read-read-requires
read-read-requires g c =
    let inv = c.loop-i.invariant in
    let n = length (g.D.Disk.content c.args.disk.now) in
    let here = all_stay (λ (z : Input). z.extent) (λ (e : Extent). start_of e + e.bytes ≤ n) c.args.inputs.now
    c.loop-i.inputs inv.still.extents c.requires.within c.loop-i.i c.index-inputs-i.result c.loop-i-test.true in
    omega (arith, here, inv.left.keeps.size)

pub loop-i-preserved : goal.loop-i-preserved
loop-i-preserved g c =
    let content = g.D.Disk.content in
    let js = c.loop-i.inputs in
    let i = c.loop-i.i in
    let inv = c.loop-i.invariant in
    let x = get_or js i c.index-inputs-i.result in
    let y = c.read-read.new.self in
    let at = ap (λ (z : Input). get_or js i z) c.index-inputs-i.is in
    let lt : i < length js = c.loop-i-test.true in
    let read = c.in_ok-read.ensures in
    let next = c.next_within-i-in-loop-i.ensures in
    let keys = c.set.ensures ∙ keys_set js c.loop-i.keys i y inv.keys in
    let long = ap length keys ∙ length-map (set js i y) (λ (z : Input). z.key) in
    record {
      within = omega (arith, next.within.1, long);
      left = search rules;
      read = λ k d le less. elim (cases_lt k (i + 1)) [
        | inl front ↦ AllWithin-more_set js i y lt IsRead inv.read read.read k d le front
        | inr back ↦ is_read (set js i y) c.set.new.self k d keys (omega (arith, less, next.within.1, long)) (next.passed k back less)
      ];
      still = nowhere_set c.args.inputs.now js i x y at read.extent read.source read.passed inv.still;
      keys = keys;
      hold = λ honest hold.
          let all = inv.hold honest hold in
          let same = (read.left.keeps.read honest).bytes in
          subst (λ (b : List ℕ). All (Holds b) (set js i y)) (sym same)
          (All-set (Holds (content c.loop-i.disk)) js i y (read.holds honest (all i c.index-inputs-i.result lt)) all);
      rooms = λ bytes rooms.
          let all = inv.rooms bytes rooms in
          All-set (IsRoomy bytes) js i y (read.rooms bytes (all i c.index-inputs-i.result lt)) all;
    }

pub returns-clause-read : goal.returns-clause-read
returns-clause-read g c = λ k d lt. c.loop-i.invariant.read k d (omega arith) (omega (arith, lt, c.loop-i-test.false))

pub returns-in_err-read-clause-roomy : goal.returns-in_err-read-clause-roomy
returns-in_err-read-clause-roomy g c = λ honest hold rooms.
    let js = c.loop-i.inputs in
    let i = c.loop-i.i in
    let inv = c.loop-i.invariant in
    let lt = c.loop-i-test.true in
    let same = (inv.left.keeps.read honest).bytes in
    let roomy = subst (λ (b : List ℕ). All (IsRoomy b) js) (sym same) (inv.rooms _ rooms) in
    let cause = c.in_err-read.ensures.roomy honest (inv.hold honest hold i c.index-inputs-i.result lt)
    (roomy i c.index-inputs-i.result lt) in
    let found = err_from_is_err_and c.from_residual.result c.from_residual.ensures.1 in
    rw found.1 (subst (λ (x : ReadFault). IsNoRefusal x) (sym found.2) cause)

pub returns-in_err-read-clause-undamaged : goal.returns-in_err-read-clause-undamaged
returns-in_err-read-clause-undamaged g c = λ honest given stored extents hold spells are.
    let content = g.D.Disk.content in
    let is = c.args.inputs.now in
    let js = c.loop-i.inputs in
    let i = c.loop-i.i in
    let inv = c.loop-i.invariant in
    let at = ap (λ (z : Input). get_or js i z) c.index-inputs-i.is in
    let lt = c.loop-i-test.true in
    let same = (inv.left.keeps.read honest).bytes in
    let there = subst (λ (b : List ℕ). SpellsInputs b given stored) (sym same) spells in
    let of_input = given_at (content c.loop-i.disk) given is js stored i c.index-inputs-i.result there are extents
    inv.still.lists inv.still.extents lt in
    let cause = c.in_err-read.ensures.undamaged honest (stored_at stored i) of_input.kind of_input.segment
    of_input.lists (inv.hold honest hold i c.index-inputs-i.result lt) in
    let found = err_from_is_err_and c.from_residual.result c.from_residual.ensures.1 in
    rw found.1 (subst (λ (x : ReadFault). IsNoDamage x) (sym found.2) cause)

pub returns-in_err-read-clause-extents : goal.returns-in_err-read-clause-extents
returns-in_err-read-clause-extents g c =
    let js = c.loop-i.inputs in
    let i = c.loop-i.i in
    part_same (λ (z : Input). z.extent) js i (get_or js i c.index-inputs-i.result) c.read-read.new.self
    (ap (λ (z : Input). get_or js i z) c.index-inputs-i.is) c.read-read.ensures.extent
    ∙ c.loop-i.invariant.still.extents

pub returns-in_err-read-clause-lists : goal.returns-in_err-read-clause-lists
returns-in_err-read-clause-lists g c =
    let js = c.loop-i.inputs in
    let i = c.loop-i.i in
    part_same (λ (z : Input). source_of z.lists) js i (get_or js i c.index-inputs-i.result) c.read-read.new.self
    (ap (λ (z : Input). get_or js i z) c.index-inputs-i.is) c.read-read.ensures.source
    ∙ c.loop-i.invariant.still.lists

pub returns-in_err-read-clause-keys : goal.returns-in_err-read-clause-keys
returns-in_err-read-clause-keys g c =
    let js = c.loop-i.inputs in
    let i = c.loop-i.i in
    c.set.ensures ∙ keys_set js c.loop-i.keys i c.read-read.new.self c.loop-i.invariant.keys
