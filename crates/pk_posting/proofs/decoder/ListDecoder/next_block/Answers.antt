use Rattle.std.proofs.Common.{◌≡◌, ◌/◌, ℕ, List, arith, refl, sym, subst, ◌∙◌}
use Rattle.std.proofs.lemmas.Result.{err_from_is_err_and}
use Rattle.pk_posting.specs.declared.decoder.BlockStart.{BlockStart}
use Rattle.pk_posting.specs.Posting.{IsRightBlock, block}
use Rattle.pk_posting.specs.Decoder.{IsEntry}
use Rattle.pk_posting.specs.Parts.{bytes_at}
use Rattle.pk_posting.proofs.DecoderLemmas.{block_more, block_there, disk_else, last_four, none_begins, rises_on}
use Rattle.pk_posting.proofs.LentLemmas.{length_bytes_at}
use Rattle.pk_posting.proofs.ReadingLemmas.{four_of}
use Rattle.pk_posting.proofs.SourceLemmas.{read_then}
use Rattle.pk_posting.proofs.decoder.ListDecoder.next_block.Goals as goal

pub returns-in_err-start-clause-spelled : goal.returns-in_err-start-clause-spelled
returns-in_err-start-clause-spelled g c honest numbers ys h some s =
    let p = err_from_is_err_and c.from_residual.result c.from_residual.ensures.1 in
    rw (p.1, p.2) (disk_else BlockStart _ (λ e. none_begins _ c.args.self.now numbers ys h some (c.in_err-start.ensures.breaks honest e) s))

pub returns-then-width-min-clause-spelled : goal.returns-then-width-min-clause-spelled
returns-then-width-min-clause-spelled g c honest numbers ys h some s =
    let size = length_bytes_at (g.S.ByteSource.content c.args.source.now) c.args.self.now.place c.requires.lies.inside in
    let there = block_there _ c.args.self.now numbers ys h c.in_ok-start.start.at _ c.in_ok-start.start.widths some (c.in_ok-start.ensures.begins honest numbers h) c.from-width.ensures s in
    absurd (omega (arith, size, there.right.small, there.right.room))

pub returns-in_err-right_in-clause-spelled : goal.returns-in_err-right_in-clause-spelled
returns-in_err-right_in-clause-spelled g c honest numbers ys h some s =
    let place = c.args.self.now.place in
    let at = c.in_ok-start.start.at in
    let width = c.from-width.result in
    let p = err_from_is_err_and c.from_residual-in_err-right_in.result c.from_residual-in_err-right_in.ensures.1 in
    let there = block_there _ c.args.self.now numbers ys h at width c.in_ok-start.start.widths some (c.in_ok-start.ensures.begins honest numbers h) c.from-width.ensures s in
    rw (p.1, p.2) (c.in_err-right_in.ensures.only honest _
    (subst (λ (b : List ℕ). IsRightBlock (bytes_at b place) at width c.args.self.now.seed (block c.args.self.now.given ys)) (sym (c.in_ok-start.ensures.left.same honest)) there.right))

pub returns-in_err-entry_in-clause-spelled : goal.returns-in_err-entry_in-clause-spelled
returns-in_err-entry_in-clause-spelled g c honest numbers ys h some s =
    let place = c.args.self.now.place in
    let at = c.in_ok-start.start.at in
    let width = c.from-width.result in
    let first = sym (c.in_ok-start.ensures.left.same honest) in
    let then = sym (c.in_ok-right_in.ensures.left.same honest) in
    let p = err_from_is_err_and c.from_residual-in_err-entry_in.result c.from_residual-in_err-entry_in.ensures.1 in
    let there = block_there _ c.args.self.now numbers ys h at width c.in_ok-start.start.widths some (c.in_ok-start.ensures.begins honest numbers h) c.from-width.ensures s in
    let same : c.right_in.new.xs ≡ block c.args.self.now.given ys = c.in_ok-right_in.ensures.only honest _
    (subst (λ (b : List ℕ). IsRightBlock (bytes_at b place) at width c.args.self.now.seed (block c.args.self.now.given ys)) first there.right) in
    rw (p.1, p.2) (c.in_err-entry_in.ensures.only honest
    (subst (λ (b : List ℕ). IsEntry (bytes_at b place) (c.args.self.now.count / 128) c.args.self.now.given at c.right_in.new.xs) (first ∙ then)
    (subst (IsEntry _ (c.args.self.now.count / 128) c.args.self.now.given at) (sym same) there.entry)))

pub returns-clause-rises : goal.returns-clause-rises
returns-clause-rises g c is = rises_on c.args.self.now.seed c.right_in.new.xs (omega arith) (c.in_ok-right_in.ensures.rises refl)

pub returns-clause-left : goal.returns-clause-left
returns-clause-left g c =
    let then = g.met.S.ByteSource.keeps_then in
    read_then then (read_then then c.in_ok-start.ensures.left c.in_ok-right_in.ensures.left) c.in_ok-entry_in.ensures.left

pub invariant_of-self-clause-order : goal.invariant_of-self-clause-order
invariant_of-self-clause-order g c = last_four c.args.self.now.seed c.right_in.new.xs (omega arith) (c.in_ok-right_in.ensures.rises refl)

pub returns-clause-given : goal.returns-clause-given
returns-clause-given g c honest numbers h =
    let place = c.args.self.now.place in
    let first = c.in_ok-start.ensures.left.same honest in
    let then = c.in_ok-right_in.ensures.left.same honest in
    let width = c.from-width.result in
    let at = c.in_ok-start.start.at in
    let xs = c.right_in.new.xs in
    let begins = c.in_ok-start.ensures.begins honest numbers h in
    let right = subst (λ (b : List ℕ). IsRightBlock (bytes_at b place) at width c.args.self.now.seed xs) first (c.in_ok-right_in.ensures.right honest) in
    let entry = subst (λ (b : List ℕ). IsEntry (bytes_at b place) (c.args.self.now.count / 128) c.args.self.now.given at xs) (then ∙ first) (c.in_ok-entry_in.ensures.is honest) in
    record {
      count = h.count;
      row = begins.row;
      read = block_more _ c.args.self.now numbers h at width c.in_ok-start.start.widths xs _ (omega (arith, c.blocks-2.ensures)) begins c.from-width.ensures right entry refl (four_of xs)
          (λ ys r. c.in_ok-right_in.ensures.only honest ys (subst (λ (b : List ℕ). IsRightBlock (bytes_at b place) at width c.args.self.now.seed ys) (sym first) r));
      widths = λ later j l. begins.same j l;
    }
