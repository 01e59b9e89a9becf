-- The number is above all others, so it is put behind each list.
use Rattle.std.proofs.lemmas.Result.{on_ok_weaker, on_err_weaker}
use Rattle.pk_model.specs.Words.{words_of}
use Rattle.pk_index.proofs.NoteLemmas.{noted_adds}
use Rattle.pk_index.proofs.adding.add_words.Goals as goal

pub returns-then-is_ascii-clause-ok : goal.returns-then-is_ascii-clause-ok
returns-then-is_ascii-clause-ok c =
    on_ok_weaker c.note_ascii.result (λ noted. noted_adds (words_of c.args.text.now) c.args.number c.args.lists.now c.note_ascii.new.lists c.requires noted) c.note_ascii.ensures.ok

pub returns-then-is_ascii-clause-err : goal.returns-then-is_ascii-clause-err
returns-then-is_ascii-clause-err c =
    on_err_weaker c.note_ascii.result (λ noted. (noted.0, noted_adds noted.0 c.args.number c.args.lists.now c.note_ascii.new.lists c.requires noted.1)) c.note_ascii.ensures.err

pub returns-clause-ok : goal.returns-clause-ok
returns-clause-ok c =
    on_ok_weaker c.note_parts.result (λ noted. noted_adds (words_of c.args.text.now) c.args.number c.args.lists.now c.note_parts.new.lists c.requires noted) c.note_parts.ensures.ok

pub returns-clause-err : goal.returns-clause-err
returns-clause-err c =
    on_err_weaker c.note_parts.result (λ noted. (noted.0, noted_adds noted.0 c.args.number c.args.lists.now c.note_parts.new.lists c.requires noted.1)) c.note_parts.ensures.err
