-- One word after the other.
use Rattle.std.proofs.Common.{◌≡◌, ◌∙◌, ◌⊎◌, ◌+◌, ◌≤◌, ◌++◌, ◌∷◌, [], refl, ap, sym, subst, append_assoc, append-nil, arith, List, ℕ, Err, length}
use Rattle.std.specs.Prelude.{All}
use Rattle.pk_disk.specs.Units.{start_of}
use Rattle.pk_disk.specs.declared.units.Extent.{Extent}
use Rattle.pk_join.specs.declared.walk_input.Input.{Input}
use Rattle.pk_join.specs.Walk.{GoesAs, WalksWithin, walk_word}
use Rattle.pk_join.specs.Whole.{WalksWhole}
use Rattle.pk_join.proofs.ComeLemmas.{come_stays, same_walk_then, within_same}
use Rattle.pk_join.proofs.StandLemmas.{all_stay}
use Rattle.pk_join.proofs.WholeLemmas.{pass_known, pass_then}
use Rattle.pk_model.specs.Terms.{terms_of}
use Rattle.pk_posting.specs.Spelling.{spelling as list_spelling}
use Rattle.pk_segment.specs.Indexed.{list_with, lists_of, postings}
use Rattle.pk_segment.proofs.PlanLemmas.{lists_all, lists_next}
use Rattle.pk_state.specs.Committed.{live_in}
use Rattle.pk_replace.specs.declared.stream.StreamFault.{StreamFault}
use Rattle.pk_replace.specs.Cause.{IsUndamaged}
use Rattle.pk_merge.specs.Apart.{WalksApart}
use Rattle.pk_merge.specs.Output.{AreGiven}
use Rattle.pk_merge.proofs.GivenLemmas.{all_mid, are_given_all, are_given_read, are_given_then, err_given, inputs_stay, is_given_read, is_given_then, lists_within, same_bytes, well}
use Rattle.pk_merge.proofs.StreamLemmas.{apart_there}
use Rattle.pk_merge.proofs.writing.write_lists.Given as given
use Rattle.pk_merge.proofs.writing.write_lists.Goals as goal
use Rattle.pk_merge.proofs.writing.write_lists.Goals.{After-go_on}

pub returns-in_err-write_list-clause-bytes : goal.returns-in_err-write_list-clause-bytes
returns-in_err-write_list-clause-bytes g c = λ honest inputs stored start fit apart enough room.
    let inv = c.words.invariant in
    let docs = live_in stored in
    let known = inv.come honest inputs stored start fit apart enough room in
    let to = subst (GoesAs (g.D.Disk.content c.go_on.new.disk) inputs stored c.go_on.new.walk known.0 known.1)
    c.if-branch.true (c.in_ok-go_on.ensures.goes honest inputs stored known.0 known.1 known.2
    (c.words.invariant.rooms _ (fit _ known.2.spells))) in
    let w = walk_word c.go_on.new.walk in
    let terms = to.come.walks.terms ∙ append_assoc known.0 (w ∷ []) to.rest in
    let P = λ (v : List ℕ). length (list_spelling (list_with v docs)) ≤ length c.args.encoded.now in
    let most : length (list_spelling (list_with w docs)) ≤ length c.args.encoded.now =
    all_mid P known.0 w to.rest (subst (All P) terms enough) in
    let is = ap (λ (l : List ℕ). length (list_spelling l)) (c.numbers.ensures.numbers ∙ to.numbers) in
    let given = c.in_err-write_list.ensures.bytes honest (omega (arith, is, most, inv.encoded))
    (omega (
      arith,
      is,
      room,
      known.3.count,
      lists_within docs known.0 w to.rest terms,
      inv.given.stretch.end,
    )) in
    err_given g.D.Disk c.args.disk.now c.write_list.new.disk c.args.output.now c.write_list.new.output
    (postings docs) c.from_residual-in_err-write_list.result c.in_err-write_list.field-0.0
    c.from_residual-in_err-write_list.ensures.1 given.undamaged

pub returns-in_err-go_on-clause-bytes : goal.returns-in_err-go_on-clause-bytes
returns-in_err-go_on-clause-bytes g c = λ honest inputs stored start fit apart enough room.
    let inv = c.words.invariant in
    let known = inv.come honest inputs stored start fit apart enough room in
    let read = c.in_err-go_on.ensures.goes honest inputs stored known.0 known.1 known.2
    (inv.rooms _ (fit _ known.2.spells)) in
    err_given g.D.Disk c.args.disk.now c.go_on.new.disk c.args.output.now c.words.output
    (postings (live_in stored)) c.from_residual.result c.in_err-go_on.field-0.0 c.from_residual.ensures.1
    (subst (λ (x : StreamFault). IsUndamaged {T = Unit {0}} (Err x)) (sym read) tt)

-- the walk has gone on where the inputs have the bytes that they had
goes_whole : (g : given.Over) (c : goal.After-go_on g)
    → WalksWhole g.D.Disk.honest (g.D.Disk.content c.words.disk) c.words.walk c.go_on.new.walk
    → WalksWhole (g.D.Disk.honest × WalksApart c.args.output.now.start c.args.output.now.end c.args.walk.now)
    (g.D.Disk.content c.args.disk.now) c.args.walk.now c.go_on.new.walk
goes_whole g c whole =
    let start = c.args.output.now.start in
    let end = c.args.output.now.end in
    let K = g.D.Disk.honest × WalksApart start end c.args.walk.now in
    let content = g.D.Disk.content in
    let is = c.args.walk.now.inputs.items in
    let js = c.words.walk.inputs.items in
    let ks = c.go_on.new.walk.inputs.items in
    let inv = c.words.invariant in
    let same = c.go_on.ensures.same in
    pass_then K (content c.args.disk.now) (content c.words.disk) is js ks same.lists same.extents
    (λ k. inputs_stay (content c.args.disk.now) (content c.words.disk) js start end inv.given.writes.size
    (inv.given.writes.changed k.0).same
    (all_stay (λ (z : Input). z.extent)
    (λ (e : Extent). (start_of e + e.bytes ≤ start) ⊎ (end ≤ start_of e)) is js inv.same.extents k.1))
    inv.whole (pass_known g.D.Disk.honest K (content c.words.disk) js ks (λ k. k.0) whole)

pub returns-clause-whole : goal.returns-clause-whole
returns-clause-whole g c = goes_whole g (goal.at.returns-clause-whole g c).After-go_on c.in_ok-go_on.ensures.whole

pub words-preserved : goal.words-preserved
words-preserved g c =
    let inv = c.words.invariant in
    let content = g.D.Disk.content in
    let d = g.D.Disk in
    let read = is_given_read d c.args.disk.now c.words.disk c.go_on.new.disk c.args.output.now c.words.output
    inv.given c.go_on.ensures.keeps c.in_ok-go_on.ensures.cause in
    record {
      given = is_given_then d c.args.disk.now c.go_on.new.disk c.write_list.new.disk c.args.output.now
          c.words.output c.write_list.new.output tt read c.in_ok-write_list.ensures.given;
      same = same_walk_then c.args.walk.now c.words.walk c.go_on.new.walk inv.same c.go_on.ensures.same;
      whole = goes_whole g (goal.at.words-preserved g c).After-go_on c.in_ok-go_on.ensures.whole;
      encoded = omega (arith, c.write_list.auto.encoded, inv.encoded);
      rooms = λ bytes rooms. c.in_ok-go_on.ensures.rooms bytes (inv.rooms bytes rooms);
      come = λ honest inputs stored start fit apart enough room.
          let docs = live_in stored in
          let known = inv.come honest inputs stored start fit apart enough room in
          let to =
          subst (GoesAs (g.D.Disk.content c.go_on.new.disk) inputs stored c.go_on.new.walk known.0
          known.1) c.if-branch.true (c.in_ok-go_on.ensures.goes honest inputs stored known.0 known.1 known.2
          (c.words.invariant.rooms _ (fit _ known.2.spells))) in
          let ws = known.0 in
          let w = walk_word c.go_on.new.walk in
          let same = (c.go_on.ensures.keeps.read honest).bytes in
          let so_far = are_given_read d c.args.disk.now c.words.disk c.go_on.new.disk c.args.output.now
          c.words.output (lists_of ws docs) same known.3 in
          let terms = to.come.walks.terms ∙ append_assoc ws (w ∷ []) to.rest in
          let P = λ (u : List ℕ). length (list_spelling (list_with u docs)) ≤ length c.args.encoded.now in
          let most : length (list_spelling (list_with w docs)) ≤ length c.args.encoded.now =
          all_mid P ws w to.rest (subst (All P) terms enough) in
          let numbers = c.numbers.ensures.numbers ∙ to.numbers in
          let is = ap (λ (l : List ℕ). length (list_spelling l)) numbers in
          let given = c.in_ok-write_list.ensures.bytes honest (omega (arith, is, most, inv.encoded))
          (omega (
            arith,
            is,
            room,
            known.3.count,
            lists_within docs ws w to.rest terms,
            inv.given.stretch.end,
          )) in
          let all = are_given_then d c.args.disk.now c.go_on.new.disk c.write_list.new.disk c.args.output.now
          c.words.output c.write_list.new.output (lists_of ws docs) _ tt so_far given in
          let own = c.in_ok-write_list.ensures.given.writes in
          let stretch = inv.given.stretch in
          let apart_now = apart_there inputs c.args.output.now.start c.args.output.now.end
          c.words.output.start c.words.output.end stretch.start stretch.end apart in
          let stay = same_bytes (content c.go_on.new.disk) (content c.write_list.new.disk) inputs
          c.words.output.start c.words.output.end own.size (own.changed honest).same apart_now in (
            ws ++ w ∷ [],
            to.rest,
            come_stays (content c.go_on.new.disk) (content c.write_list.new.disk) inputs stored
                c.go_on.new.walk (ws ++ w ∷ []) to.rest stay to.come,
            subst (λ (l : List ℕ). AreGiven d c.args.disk.now c.write_list.new.disk c.args.output.now
                c.write_list.new.output l well)
                (ap (λ (l : List ℕ). lists_of ws docs ++ list_spelling l) numbers
                ∙ sym (lists_next ws w docs)) all,
          );
    }

pub returns-clause-bytes : goal.returns-clause-bytes
returns-clause-bytes g c = λ honest inputs stored start fit apart enough room.
    let docs = live_in stored in
    let known = c.words.invariant.come honest inputs stored start fit apart enough room in
    let all : known.1 ≡ [] =
    subst (GoesAs (g.D.Disk.content c.go_on.new.disk) inputs stored c.go_on.new.walk known.0 known.1)
    c.if-branch.false (c.in_ok-go_on.ensures.goes honest inputs stored known.0 known.1 known.2
    (c.words.invariant.rooms _ (fit _ known.2.spells))) in
    let terms = known.2.walks.terms ∙ ap (λ (us : List (List ℕ)). known.0 ++ us) all ∙ append-nil known.0 in
    let lists = ap (λ (ws : List (List ℕ)). lists_of ws docs) (sym terms)
    ∙ lists_all docs (terms_of docs) refl in
    let same = (c.go_on.ensures.keeps.read honest).bytes in
    are_given_all g.D.Disk c.args.disk.now c.go_on.new.disk c.args.output.now c.words.output
    (lists_of known.0 docs) (postings docs) lists
    (are_given_read g.D.Disk c.args.disk.now c.words.disk c.go_on.new.disk c.args.output.now c.words.output
    (lists_of known.0 docs) same known.3)

pub go_on-requires : goal.go_on-requires
go_on-requires g c =
    let inv = c.words.invariant in
    within_same (length (g.D.Disk.content c.words.disk)) c.args.walk.now c.words.walk inv.same
    (subst (λ (n : ℕ). WalksWithin n c.args.walk.now) (sym inv.given.writes.size) c.requires.walk)
