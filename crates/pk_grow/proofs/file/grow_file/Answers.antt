-- The body is read, the file is made longer, and then another body takes its place.
use Rattle.std.proofs.Common.{◌∙◌, Err, ap, length, refl, sym}
use Rattle.pk_filedisk.specs.Resized.{resized, resized_same}
use Rattle.pk_manifest.specs.Spelling.{view}
use Rattle.pk_grow.proofs.FileLemmas.{IsDueOf, IsLonger, IsRead, IsReplaced, grew_file, long_enough, none_due, not_grown, not_longer, of_file, was_read}
use Rattle.pk_grow.proofs.ShutLemmas.{shut_has}
use Rattle.pk_grow.proofs.file.grow_file.Given as given
use Rattle.pk_grow.proofs.file.grow_file.Goals as goal
use Rattle.pk_grow.proofs.file.grow_file.Goals.{After-body_due, After-grow_body, After-other-spare, In-Ok}

module _ (g : given.Over) (c : goal.After-body_due g) (honest : g.F.RawFile.honest) where
  read : IsRead g.F.RawFile (resized c.args.disk.len (g.F.RawFile.content c.args.disk.file)) c.args.disk.file c.body_due.new.disk.file
  read =
      let mid = c.body_due.new.disk in
      let only = c.body_due.ensures.read honest in
      was_read g.F.RawFile (λ d. d.file) c.args.disk mid _ mid.len only.images (mid.fits honest) only.bytes (only.positions ∙ c.requires.closed honest)

module _ (g : given.Over) (c : goal.After-other-spare g) (honest : g.F.RawFile.honest) where
  due : IsDueOf (resized c.args.disk.len (g.F.RawFile.content c.args.disk.file)) c.args.units c.in-Ok-Some.found.1 c.other-spare.result (view c.in-Ok-Some.found.0)
  due =
      let is = rw c.in-Ok-Some.field-0-is at (c.in-Ok-Some.ensures.answer honest) in
      record { has = is.0; fewer = is.1; least = rw c.in-Ok-Some.field-0-is at c.in-Ok-Some.ensures.least; spare = c.other-spare.ensures }

module _ (g : given.Over) (c : goal.In-Ok g) (honest : g.F.RawFile.honest) where
  longer : IsLonger g.F.RawFile (resized c.args.disk.len (g.F.RawFile.content c.args.disk.file)) c.args.units c.other-spare.result c.body_due.new.disk.file
      c.in-Ok.disk.file (resized c.in-Ok.disk.len (g.F.RawFile.content c.in-Ok.disk.file))
  longer =
      let only = c.body_due.ensures.read honest in
      let is = c.in-Ok.ensures in
      record {
        room = is.room;
        size = rw only.bytes at is.size;
        content = sym (resized_same c.in-Ok.disk.len (g.F.RawFile.content c.in-Ok.disk.file) (c.in-Ok.disk.fits honest));
        closed = is.closed honest;
        gets = rw only.bytes at (is.longer honest);
      }

module _ (g : given.Over) (c : goal.After-grow_body g) (honest : g.F.RawFile.honest) where
  replaced : IsReplaced g.F.RawFile (resized c.in-Ok.disk.len (g.F.RawFile.content c.in-Ok.disk.file)) c.in-Ok-Some.found.0.units c.args.units c.in-Ok.disk.file c.grow_body.new.disk.file
  replaced =
      let f = g.F.RawFile in
      let long = c.in-Ok.disk in
      let now = c.grow_body.new.disk in
      record {
        moments = λ col holds. of_file (λ d. d.file) f.moment f.images_since long now _ (c.grow_body.ensures.any_moment honest col holds);
        counts_now = λ le. g.met.F.RawFile.counts_now now.file (f.moment long.file) (f.content now.file) honest now.settled le (record { size = refl; same = λ p no. refl });
        only_now = λ image since. g.met.F.RawFile.only_now long.file image honest long.settled since;
      }

pub returns-in-Ok-None : goal.returns-in-Ok-None
returns-in-Ok-None g c = λ honest.
    let w = goal.at.returns-in-Ok-None g c in
    rw c.into_file.ensures (long_enough (read g w.After-body_due honest) (rw c.in-Ok-None.field-0-is at (c.in-Ok-None.ensures.answer honest)))

pub returns-in-Err : goal.returns-in-Err
returns-in-Err g c = λ honest.
    let w = goal.at.returns-in-Err g c in
    rw c.into_file-in-Err.ensures (none_due (read g w.After-body_due honest) c.in-Err.fault (c.in-Err.ensures.answer honest))

pub longer-requires-clause-closed : goal.longer-requires-clause-closed
longer-requires-clause-closed g c = λ honest. (c.body_due.ensures.read honest).positions ∙ c.requires.closed honest

pub returns-in-Err-longer : goal.returns-in-Err-longer
returns-in-Err-longer g c = λ honest.
    let w = goal.at.returns-in-Err-longer g c in
    let same = (c.body_due.ensures.read honest).bytes in
    not_longer (read g w.After-body_due honest) (due g w.After-other-spare honest) c.in-Err-longer.file (rw same at (c.in-Err-longer.ensures.left honest))

pub grow_body-requires-clause-current : goal.grow_body-requires-clause-current
grow_body-requires-clause-current g c = λ honest.
    let w = goal.at.grow_body-requires-clause-current g c in
    let is = due g w.After-other-spare honest in
    shut_has _ _ _ _ _ is.spare is.least is.has (longer g w.In-Ok honest).gets.start

pub returns-in-Ok-grow_body : goal.returns-in-Ok-grow_body
returns-in-Ok-grow_body g c = λ honest.
    let w = goal.at.returns-in-Ok-grow_body g c in
    let now = c.grow_body.new.disk in
    let is = resized_same now.len (g.F.RawFile.content now.file) (now.fits honest) in
    rw c.into_file-in-Ok-grow_body.ensures (grew_file (read g w.After-body_due honest) (due g w.After-other-spare honest) (longer g w.In-Ok honest) (replaced g w.After-grow_body honest)
    (λ col holds. rw is at (c.in-Ok-grow_body.ensures.done honest col holds)) (ap length (sym is) ∙ c.grow_body.ensures.size) (c.in-Ok-grow_body.ensures.closed honest))

pub returns-in-Err-grow_body : goal.returns-in-Err-grow_body
returns-in-Err-grow_body g c = λ honest.
    let w = goal.at.returns-in-Err-grow_body g c in
    rw c.into_file-in-Err-grow_body.ensures (not_grown (read g w.After-body_due honest) (due g w.After-other-spare honest) (longer g w.In-Ok honest) (replaced g w.After-grow_body honest)
    c.in-Err-grow_body.fault c.in-Err-grow_body.ensures.fault (λ last. c.in-Err-grow_body.ensures.used_up.0 (ap (λ x. Err x) last)))
