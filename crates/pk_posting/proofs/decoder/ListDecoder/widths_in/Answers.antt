use Rattle.std.proofs.Common.{ℕ, List, arith, ap, sym, slice_index, ◌∙◌}
use Rattle.pk_posting.proofs.LentLemmas.{Lent, byte_lent, length_bytes_at}
use Rattle.pk_posting.proofs.ReadingLemmas.{false_is}
use Rattle.pk_posting.proofs.decoder.ListDecoder.widths_in.Goals as goal

pub returns-then-self-lt16-clause-breaks : goal.returns-then-self-lt16-clause-breaks
returns-then-self-lt16-clause-breaks g c honest is =
    let size = length_bytes_at (g.S.ByteSource.content c.args.source.now) c.args.self.now.place c.requires.lies.inside in
    record { first = c.requires.first; broken = λ room zeros. absurd (omega (arith, room, size)) }

pub returns-then-not-is_padded-clause-breaks : goal.returns-then-not-is_padded-clause-breaks
returns-then-not-is_padded-clause-breaks g c honest is =
    let at = c.args.self.now.at in
    let lent : Lent (g.S.ByteSource.content c.args.source.now) c.args.self.now.place 16 at c.in_ok-stretch.stretch.now =
    record { inside = omega arith; is = c.in_ok-stretch.ensures.value honest } in
    record {
      first = c.requires.first;
      broken = λ room zeros. false_is c.is_padded.result
          (c.is_padded.ensures.1 (λ j l m. byte_lent _ c.args.self.now.place 16 at _ j lent l ∙ zeros j l (omega (arith, m, c.blocks-2.ensures)))) c.if-not-is_padded.true;
    }

pub returns-clause-widths : goal.returns-clause-widths
returns-clause-widths g c honest =
    let at = c.args.self.now.at in
    let size = length_bytes_at (g.S.ByteSource.content c.args.source.now) c.args.self.now.place c.requires.lies.inside in
    let lent : Lent (g.S.ByteSource.content c.args.source.now) c.args.self.now.place 16 at c.in_ok-stretch.stretch.now =
    record { inside = omega arith; is = c.in_ok-stretch.ensures.value honest } in
    record {
      room = omega (arith, size);
      same = λ j l. ap (λ (ws : List ℕ). slice_index ws j) c.copy_from_slice.ensures.after ∙ byte_lent _ c.args.self.now.place 16 at _ j lent l;
      zeros = λ j l m. sym (byte_lent _ c.args.self.now.place 16 at _ j lent l) ∙ c.is_padded.ensures.0 c.if-not-is_padded.false j l (omega (arith, m, c.blocks-2.ensures));
    }
