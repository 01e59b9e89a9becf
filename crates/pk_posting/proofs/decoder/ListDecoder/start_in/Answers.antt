use Rattle.std.proofs.Common.{arith}
use Rattle.pk_posting.proofs.DecoderLemmas.{begins_first, begins_later}
use Rattle.pk_posting.proofs.decoder.ListDecoder.start_in.Goals as goal

pub returns-then-self-ne0-clause-begins : goal.returns-then-self-ne0-clause-begins
returns-then-self-ne0-clause-begins g c honest numbers h =
    begins_later _ c.args.self.now numbers h (omega arith)

pub returns-clause-begins : goal.returns-clause-begins
returns-clause-begins g c honest numbers h =
    begins_first _ c.args.self.now numbers h c.in_ok-widths.widths (omega arith) (c.in_ok-widths.ensures.widths honest)
