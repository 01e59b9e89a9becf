-- One input after the other.
use Rattle.std.proofs.Common.{◌∙◌, ◌∷◌, ◌++◌, [], ◌≤◌, ◌+◌, List, ℕ, length, take, drop, refl, sym, ap, subst, rules, arith}
use Rattle.std.specs.Prelude.{All}
use Rattle.std.proofs.lemmas.List.{take_all}
use Rattle.std.proofs.lemmas.List.Elements.{All-nil, All-push}
use Rattle.pk_disk.specs.Units.{extent_bytes}
use Rattle.pk_join.specs.declared.input.MergeInput.{MergeInput}
use Rattle.pk_join.specs.declared.walk_input.Input.{Input}
use Rattle.pk_join.specs.WalkInput.{HaveExtentsOf, IsBefore, extents_of, lists_of}
use Rattle.pk_join.specs.Listed.{AreFresh, AreListsOf, ListSource, source_of}
use Rattle.pk_join.specs.Said.{AreSaidIn}
use Rattle.pk_join.specs.Walking.{AreListed, stored_at}
use Rattle.pk_join.proofs.InputLemmas.{inputs_long, live_append, take_stored}
use Rattle.pk_join.proofs.WalkLemmas.{inputs_more, listed_snoc}
use Rattle.pk_state.specs.Committed.{Stored, all_in, live_in}
use Rattle.pk_merge.specs.Counting.{count_said, counts_said, numbers_listed}
use Rattle.pk_merge.specs.Gathering.{RiseFrom, left_by}
use Rattle.pk_merge.specs.declared.kept.Kept.{Kept}
use Rattle.pk_merge.specs.Keeping.{AreKept, StayApart}
use Rattle.pk_merge.specs.Left.{kept_in}
use Rattle.pk_merge.specs.Output.{LiesApart}
use Rattle.pk_merge.specs.ReadAll.{ReadsAllAs}
use Rattle.pk_merge.specs.Said.{AreAllSaid}
use Rattle.pk_merge.proofs.CountLemmas.{counts_next, numbers_next}
use Rattle.pk_merge.proofs.FaultLemmas.{passed_on}
use Rattle.pk_merge.proofs.GatherLemmas.{fails_on, left_next}
use Rattle.pk_merge.proofs.InputLemmas.{live_here, next_of, rise_all}
use Rattle.pk_merge.proofs.WholeLemmas.{said_snoc}
use Rattle.pk_merge.proofs.ReadLemmas.{pushed_extents, pushed_lists}
use Rattle.pk_merge.proofs.reading.read_all.Goals as goal

pub returns-in_err-lists-clause-read : goal.returns-in_err-lists-clause-read
returns-in_err-lists-clause-read g c = λ honest stored spells rising.
    let l = c.loop-input in
    let i = l.input-index in
    let x = c.input-item.result in
    let s = stored_at stored i in
    let same = (l.invariant.left.keeps.read honest).bytes in
    let known = l.invariant.read honest stored spells rising in
    let next = next_of _ _ c.args.inputs.now stored i l.left.last x spells same c.loop-input-test.true
    c.input-item.is known.2 in
    let before = live_in (take i stored) in
    let kept = subst (λ (b : List ℕ). AreKept b (kept_in l.left) before) (sym same) known.1 in
    passed_on (ReadsAllAs (g.D.Disk.content c.args.disk.now) c.args.inputs.now stored)
    c.from_residual-in_err-lists.result c.from_residual-in_err-lists.ensures.1
    (fails_on live_in live_append stored i s [] before (left_by x.dead.now s.documents)
    c.in_err-lists.field-0.0 (take_stored stored i next.within)
    (live_here x.dead.now s next.input.dead) refl
    (c.in_err-lists.ensures.read honest before s.documents (all_in (drop (i + 1) stored))
    next.input.segment next.rise kept))

pub loop-input-init : goal.loop-input-init
loop-input-init g c =
    let content = g.D.Disk.content c.args.disk.now in
    let none = c.new-left.ensures.documents in
    record {
      left = search rules;
      disk_bytes = c.new-left.ensures.disk_bytes ∙ c.len.ensures;
      apart = subst (StayApart c.args.inputs.now) (sym none) (λ start end all k d within. absurd (omega (arith, within)));
      enough = λ honest. omega arith;
      said = λ honest. subst (λ (is : List Input). AreAllSaid content [] (lists_of is))
          (sym c.in_ok-read.ensures.items) tt;
      extents = ap extents_of (sym c.in_ok-read.ensures.items);
      before = subst (All IsBefore) (sym c.in_ok-read.ensures.items) (All-nil IsBefore);
      read = λ honest stored spells rising. (
        subst (λ (is : List Input). AreListed [] (lists_of is) []) (sym c.in_ok-read.ensures.items) tt,
        subst (λ (ks : List Kept). AreKept content ks []) (sym none) tt,
        subst (λ (n : ℕ). RiseFrom n (all_in stored)) (sym c.new-left.ensures.last)
            (rise_all content c.args.inputs.now stored spells rising),
      );
    }

pub loop-input-preserved : goal.loop-input-preserved
loop-input-preserved g c =
    let content = g.D.Disk.content in
    let inv = c.loop-input.invariant in
    let i = c.loop-input.input-index in
    let x = c.input-item.result in
    let y = c.in_ok-before.before in
    record {
      left = search rules;
      disk_bytes = c.read_input.ensures.disk_bytes ∙ inv.disk_bytes;
      apart = λ start end all. c.in_ok-lists.ensures.between start end
          (subst (LiesApart start end) (sym c.input-item.is) (all i x c.loop-input-test.true))
          (inv.apart start end all);
      enough = λ honest.
          let more = inputs_more c.args.inputs.now i x c.loop-input-test.true c.input-item.is in
          let before = take i c.args.inputs.now in
          omega (
            arith,
            inv.enough honest,
            ap (counts_said (content c.args.disk.now)) more,
            counts_next (content c.args.disk.now) before x,
            ap numbers_listed more,
            numbers_next before x,
            subst (λ (b : List ℕ). count_said (extent_bytes b x.extent) + length (kept_in c.loop-input.left)
                ≤ length (kept_in c.read_input.new.left) + length x.dead.now) (inv.left.keeps.read honest).bytes
                (c.in_ok-lists.ensures.enough honest),
          );
      said = λ honest.
          let bytes = content c.args.disk.now in
          let before = take i c.args.inputs.now in
          let l = c.in_ok-lists.lists in
          let more = said_snoc bytes before (lists_of c.loop-input.read.items) x (source_of l) (inv.said honest)
          (subst (λ (b : List ℕ). AreSaidIn (extent_bytes b x.extent) x.kind (source_of l))
          (inv.left.keeps.read honest).bytes (c.in_ok-lists.ensures.said honest)) in
          subst (λ (is : List MergeInput). AreAllSaid bytes is (lists_of c.push.new.self.items))
          (sym (inputs_more c.args.inputs.now i x c.loop-input-test.true c.input-item.is))
          (subst (AreAllSaid bytes (before ++ x ∷ []))
          (sym (pushed_lists c.loop-input.read.items c.push.new.self.items y l c.in-Ok.ensures.items
          c.in_ok-before.ensures.lists)) more);
      extents = pushed_extents c.args.inputs.now i x c.loop-input.read.items c.push.new.self.items y
          c.loop-input-test.true c.input-item.is c.in-Ok.ensures.items c.in_ok-before.ensures.extent
          inv.extents;
      before = subst (All IsBefore) (sym c.in-Ok.ensures.items)
          (All-push IsBefore c.loop-input.read.items y inv.before
          (record {
            stands = c.in_ok-before.ensures.start;
            lists = subst AreFresh (sym c.in_ok-before.ensures.lists) c.in_ok-lists.ensures.fresh;
            ahead = c.in_ok-before.ensures.none;
          }));
      read = λ honest stored spells rising.
          let s = stored_at stored i in
          let same = (inv.left.keeps.read honest).bytes in
          let known = inv.read honest stored spells rising in
          let next = next_of _ _ c.args.inputs.now stored i c.loop-input.left.last x spells same
          c.loop-input-test.true c.input-item.is known.2 in
          let before = live_in (take i stored) in
          let kept = subst (λ (b : List ℕ). AreKept b (kept_in c.loop-input.left) before) (sym same)
          known.1 in
          let has = c.in_ok-lists.ensures.read honest before s.documents (all_in (drop (i + 1) stored))
          next.input.segment next.rise kept in
          let all = left_next live_in live_append stored i s [] before (left_by x.dead.now s.documents)
          (take_stored stored i next.within) (live_here x.dead.now s next.input.dead) refl in
          let listed = subst (AreListsOf (source_of c.in_ok-lists.lists) x.kind s.documents) next.input.dead has.listed in
          let more = listed_snoc (take i c.args.inputs.now) (lists_of c.loop-input.read.items) (take i stored)
          x (source_of c.in_ok-lists.lists) s known.0 listed in
          let pushed = pushed_lists c.loop-input.read.items c.push.new.self.items y c.in_ok-lists.lists
          c.in-Ok.ensures.items c.in_ok-before.ensures.lists in (
            subst (λ (is : List MergeInput). AreListed is (lists_of c.push.new.self.items)
                (take (i + 1) stored)) (sym
                (inputs_more c.args.inputs.now i x c.loop-input-test.true c.input-item.is))
                (subst (λ (ls : List ListSource). AreListed (take i c.args.inputs.now ++ x ∷ []) ls
                (take (i + 1) stored)) (sym pushed)
                (subst (AreListed (take i c.args.inputs.now ++ x ∷ [])
                (lists_of c.loop-input.read.items ++ source_of c.in_ok-lists.lists ∷ []))
                (sym (take_stored stored i next.within)) more)),
            subst (λ (b : List ℕ). AreKept b (kept_in c.read_input.new.left)
                (live_in (take (i + 1) stored))) same
                (subst (AreKept (content c.loop-input.disk) (kept_in c.read_input.new.left)) all has.kept),
            has.rise,
          );
    }

pub returns-clause-read : goal.returns-clause-read
returns-clause-read g c = λ honest stored spells rising.
    let content = g.D.Disk.content in
    let i = c.loop-input.input-index in
    let known = c.loop-input.invariant.read honest stored spells rising in
    let long = inputs_long (content c.args.disk.now) c.args.inputs.now stored spells in
    let all = take_all i stored (omega (arith, c.loop-input-test.false, long)) in
    let each = take_all i c.args.inputs.now (omega (arith, c.loop-input-test.false)) in (
      subst (λ (is : List MergeInput). AreListed is (lists_of c.loop-input.read.items) stored) each
          (subst (AreListed (take i c.args.inputs.now) (lists_of c.loop-input.read.items)) all known.0),
      subst (λ (ss : List Stored). AreKept (content c.args.disk.now) (kept_in c.loop-input.left)
          (live_in ss)) all known.1,
    )

pub returns-clause-extents : goal.returns-clause-extents
returns-clause-extents g c =
    let i = c.loop-input.input-index in
    subst (λ (is : List MergeInput). HaveExtentsOf is c.loop-input.read.items)
    (take_all i c.args.inputs.now (omega (arith, c.loop-input-test.false))) c.loop-input.invariant.extents

pub returns-clause-enough : goal.returns-clause-enough
returns-clause-enough g c = λ honest.
    let i = c.loop-input.input-index in
    let each = take_all i c.args.inputs.now (omega (arith, c.loop-input-test.false)) in
    omega (
      arith,
      c.loop-input.invariant.enough honest,
      ap (counts_said (g.D.Disk.content c.args.disk.now)) each,
      ap numbers_listed each,
    )

pub returns-clause-said : goal.returns-clause-said
returns-clause-said g c = λ honest.
    subst (λ (is : List MergeInput). AreAllSaid (g.D.Disk.content c.args.disk.now) is
    (lists_of c.loop-input.read.items))
    (take_all c.loop-input.input-index c.args.inputs.now (omega (arith, c.loop-input-test.false)))
    (c.loop-input.invariant.said honest)
