use Rattle.std.proofs.Common.{refl}
use Rattle.pk_posting.proofs.PuttingLemmas.{entry_put}
use Rattle.pk_posting.proofs.encoding.put_entry.Goals as goal

pub returns : goal.returns
returns c =
    entry_put c.args.xs.now c.args.k _ c.args.offset _ c.args.head.now c.put_word.new.out c.put_word-2.new.out c.put_word-3.new.out c.put_word-4.new.out c.put_word-5.new.out
    refl refl c.requires.offset c.put_word.ensures c.put_word-2.ensures c.put_word-3.ensures c.put_word-4.ensures c.put_word-5.ensures
