-- The word that was read is greater than the one before.
use Rattle.pk_dict.proofs.Coming.{word_rises}
use Rattle.pk_dict.proofs.cursor.TermCursor.next.Goals as goal

pub returns-in-Ok-clause-rises : goal.returns-in-Ok-clause-rises
returns-in-Ok-clause-rises g c h held is some = word_rises _ c.args.self.now.read _ _ _ some (c.in-Ok.ensures.said h held)
