use Rattle.std.proofs.Common.{◌≡◌, ◌%◌, [], arith, sym}
use Rattle.std.proofs.lemmas.Result.{err_from_is_err_and}
use Rattle.pk_posting.proofs.DecoderLemmas.{none_left, none_more, spelled_whole, tail_there}
use Rattle.pk_posting.proofs.LentLemmas.{length_bytes_at}
use Rattle.pk_posting.proofs.WholeLemmas.{climbs_on}
use Rattle.pk_posting.proofs.decoder.ListDecoder.tail.Goals as goal

pub returns-in_err-read_tail_in-clause-spelled : goal.returns-in_err-read_tail_in-clause-spelled
returns-in_err-read_tail_in-clause-spelled g c honest numbers ys h all s =
    let p = err_from_is_err_and c.from_residual.result c.from_residual.ensures.1 in
    rw (p.1, p.2) (c.in_err-read_tail_in.ensures.spelled honest _ (tail_there _ c.args.self.now numbers ys h all s))

pub returns-clause-whole : goal.returns-clause-whole
returns-clause-whole g c honest numbers h =
    let size = length_bytes_at (g.S.ByteSource.content c.args.source.now) c.args.self.now.place c.requires.lies.inside in
    spelled_whole _ c.args.self.now numbers _ h (omega (arith, c.blocks-2.ensures)) (omega (arith, size)) c.args.self.now.most
    (c.in_ok-read_tail_in.ensures.value honest) (λ ys t. sym (c.in_ok-read_tail_in.ensures.spelled honest ys t))

pub returns-then-self-clause-whole : goal.returns-then-self-clause-whole
returns-then-self-clause-whole g c honest numbers h =
    let size = length_bytes_at (g.S.ByteSource.content c.args.source.now) c.args.self.now.place c.requires.lies.inside in
    let none : c.args.self.now.count % 128 ≡ 0 = omega arith in
    spelled_whole _ c.args.self.now numbers [] h (omega (arith, c.blocks-2.ensures)) (omega (arith, size)) c.args.self.now.most
    (rw none (none_left _ c.args.self.now.at _ (omega (arith, size)))) (λ ys t. none_more _ _ _ ys (rw none at t))

pub returns-clause-rises : goal.returns-clause-rises
returns-clause-rises g c =
    climbs_on _ (c.args.self.now.count % 128) c.read_tail_in.new.xs (omega arith) (search c.in_ok-read_tail_in.ensures.climbs)
