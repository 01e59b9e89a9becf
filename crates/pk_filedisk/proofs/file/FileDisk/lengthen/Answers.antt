-- The file gets longer, the bytes are put, and both are synced; or it is handed back on the way.
use Rattle.std.proofs.Common.{◌≡◌, ◌∙◌, ◌+◌, ◌≤◌, ap, arith, length, rules, sym}
use Rattle.std.proofs.lemmas.List.{take_all}
use Rattle.pk_disk.proofs.Moments.{only_none}
use Rattle.pk_filedisk.specs.Resized.{resized, resized_same}
use Rattle.pk_filedisk.proofs.LongerLemmas.{GotLonger, fits_longer, lengthened, put_images, put_start}
use Rattle.pk_filedisk.proofs.ResizedLemmas.{length_resized}
use Rattle.pk_filedisk.proofs.file.FileDisk.lengthen.Given as given
use Rattle.pk_filedisk.proofs.file.FileDisk.lengthen.Goals as goal
use Rattle.pk_filedisk.proofs.file.FileDisk.lengthen.Goals.{After-set_len, then-unsure-via-then-unsure, then-unsure-via-else-unsure+then-is_err}

module _ (g : given.Over) (c : goal.After-set_len g) (honest : g.F.RawFile.honest) where
  le : length (g.F.RawFile.content c.args.self.file) ≤ c.args.len
  le = omega (arith, c.requires.longer, length_resized c.args.self.len (g.F.RawFile.content c.args.self.file), c.args.self.fits honest)

  longer : GotLonger g.F.RawFile c.args.self.file c.set_len.new.self
  longer = record {
    start = c.set_len.ensures.start honest le;
    images = c.set_len.ensures.images honest le;
    only_now = λ image since. g.met.F.RawFile.only_now c.args.self.file image honest c.args.self.settled since;
    counts_before = λ t u image le since. g.met.F.RawFile.counts_before c.set_len.new.self t u image honest le since;
  }

  room : c.args.at + length c.args.bytes.now ≤ length (g.F.RawFile.content c.set_len.new.self)
  room = fits_longer longer (c.args.at + length c.args.bytes.now) (omega (arith, c.requires.inside, length_resized c.args.self.len (g.F.RawFile.content c.args.self.file), c.args.self.fits honest))

pub returns-then-unsure-clause-unchanged : goal.returns-then-unsure-clause-unchanged
returns-then-unsure-clause-unchanged g c = λ honest long.
    let was = g.F.RawFile.content c.args.self.file in
    let same : resized c.args.self.len was ≡ was = resized_same c.args.self.len was (c.args.self.fits honest) in
    elim c.then-unsure.branch [
      | then-unsure-via-then-unsure w ↦ ap g.F.RawFile.content w.file-is ∙ sym same
      | then-unsure-via-else-unsure+then-is_err w ↦
          let now = g.F.RawFile.content w.set_len.new.self in
          let size : length was ≡ c.args.self.len = c.args.self.fits honest in
          let le : length was ≤ c.args.len = omega (arith, c.requires.longer, length_resized c.args.self.len was, size) in
          let fits : length now ≤ length was = omega (arith, ap length (ap g.F.RawFile.content w.file-is), long, ap length same) in
          ap g.F.RawFile.content w.file-is ∙ sym (take_all (length was) now fits) ∙ w.set_len.ensures.start honest le ∙ sym same
    ]

pub returns-in_default-clause-start : goal.returns-in_default-clause-start
returns-in_default-clause-start g c = λ honest.
    let after = (goal.at.returns-in_default-clause-start g c).After-set_len in
    put_start (longer g after honest) c.args.self.len c.args.at 0 c.args.bytes.now c.write_whole.new.file (c.args.self.fits honest) (c.in_default.ensures.part honest (room g after honest))

pub returns-in_default-clause-images_left : goal.returns-in_default-clause-images_left
returns-in_default-clause-images_left g c = λ honest.
    let after = (goal.at.returns-in_default-clause-images_left g c).After-set_len in
    put_images (longer g after honest) c.args.self.len c.args.at 0 c.args.bytes.now c.write_whole.new.file (c.args.self.fits honest) (c.in_default.ensures.part honest (room g after honest))

pub returns-then-is_err-2-clause-start : goal.returns-then-is_err-2-clause-start
returns-then-is_err-2-clause-start g c = λ honest.
    let after = (goal.at.returns-then-is_err-2-clause-start g c).After-set_len in
    rw (c.sync_all.ensures.bytes honest) (put_start (longer g after honest) c.args.self.len c.args.at _ c.args.bytes.now c.write_whole.new.file (c.args.self.fits honest) (c.in-Ok.ensures.whole honest (room g after honest)))

pub returns-then-is_err-2-clause-images_left : goal.returns-then-is_err-2-clause-images_left
returns-then-is_err-2-clause-images_left g c = λ honest.
    let after = (goal.at.returns-then-is_err-2-clause-images_left g c).After-set_len in
    only_none _ _ c.args.self.file c.write_whole.new.file c.sync_all.new.self _ (put_images (longer g after honest) c.args.self.len c.args.at _ c.args.bytes.now c.write_whole.new.file (c.args.self.fits honest) (c.in-Ok.ensures.whole honest (room g after honest))) (c.sync_all.ensures.images honest)

pub returns-clause-content : goal.returns-clause-content
returns-clause-content g c = λ honest.
    let after = (goal.at.returns-clause-content g c).After-set_len in
    let f = g.F.RawFile in
    let mid = c.set_len.new.self in
    let put = c.write_whole.new.file in
    let is : f.content mid ≡ resized c.args.len (f.content c.args.self.file) = search rules in
    let all = (c.in-Ok.ensures.whole honest (room g after honest)).put in
    rw c.of_file.ensures.file (rw c.of_file.ensures.len (lengthened c.args.len c.args.self.len (f.content c.args.self.file) (f.content mid) (f.content put) (f.content c.sync_all.new.self) (f.is_open mid) (f.is_open put)
    c.args.at c.args.bytes.now (c.args.self.fits honest) (omega (arith, le g after honest, c.args.self.fits honest)) c.requires.inside is all (c.sync_all.ensures.bytes honest)))

pub returns-clause-images : goal.returns-clause-images
returns-clause-images g c = λ honest.
    let after = (goal.at.returns-clause-images g c).After-set_len in
    rw c.of_file.ensures.file (only_none _ _ c.args.self.file c.write_whole.new.file c.sync_all.new.self _ (put_images (longer g after honest) c.args.self.len c.args.at _ c.args.bytes.now c.write_whole.new.file (c.args.self.fits honest) (c.in-Ok.ensures.whole honest (room g after honest))) (c.sync_all.ensures.images honest))
