-- The spare gate is shut, the writer writes, and the body takes force: each image is from before or after.
use Rattle.std.proofs.Common.{length, rules}
use Rattle.pk_replace.proofs.CourseLemmas.{agree_behind, finished, greater_put, kept_put, of_old, promised_there, put_by, still_put, until_shut, while_finished}
use Rattle.pk_replace.proofs.EvolvingLemmas.{evolves_any, until_put, until_shut as evolves_shut, until_stopped, until_taken}
use Rattle.pk_replace.proofs.replacing.install.Goals as goal

pub returns-in_default-clause-any_moment : goal.returns-in_default-clause-any_moment
returns-in_default-clause-any_moment g c = λ honest.
    of_old g.D.Disk c.args.spare (g.W.WritesExtent.touches c.args.writer) c.args.disk.now c.shut_spare.new.disk c.args.body.now (g.W.WritesExtent.promises c.args.writer (g.D.Disk.content c.args.disk.now))
    (until_shut g.D.Disk c.args.spare (g.W.WritesExtent.touches c.args.writer) (g.met.W.WritesExtent.is_far c.args.writer (length (g.D.Disk.content c.args.disk.now)) c.requires.can) c.args.disk.now c.shut_spare.new.disk (c.shut_spare.ensures.current honest) (c.shut_spare.ensures.images honest))

pub returns-in_err-write_into-clause-any_moment : goal.returns-in_err-write_into-clause-any_moment
returns-in_err-write_into-clause-any_moment g c = λ honest.
    let put = put_by g.D.Disk c.args.spare (g.W.WritesExtent.touches c.args.writer) (g.met.W.WritesExtent.is_far c.args.writer (length (g.D.Disk.content c.args.disk.now)) c.requires.can) c.args.disk.now c.shut_spare.new.disk
    (c.shut_spare.ensures.current honest) (c.shut_spare.ensures.images honest) (c.in-Ok.ensures.changed honest) (c.in-Ok.ensures.shut honest) c.write_into.new.disk honest c.write_into.ensures.writes in
    of_old g.D.Disk c.args.spare (g.W.WritesExtent.touches c.args.writer) c.args.disk.now c.write_into.new.disk c.args.body.now (g.W.WritesExtent.promises c.args.writer (g.D.Disk.content c.args.disk.now)) put.until

pub returns-in_err-write_into-clause-kept : goal.returns-in_err-write_into-clause-kept
returns-in_err-write_into-clause-kept g c = λ honest.
    let put = put_by g.D.Disk c.args.spare (g.W.WritesExtent.touches c.args.writer) (g.met.W.WritesExtent.is_far c.args.writer (length (g.D.Disk.content c.args.disk.now)) c.requires.can) c.args.disk.now c.shut_spare.new.disk
    (c.shut_spare.ensures.current honest) (c.shut_spare.ensures.images honest) (c.in-Ok.ensures.changed honest) (c.in-Ok.ensures.shut honest) c.write_into.new.disk honest c.write_into.ensures.writes in
    kept_put g.D.Disk c.args.spare (g.W.WritesExtent.touches c.args.writer) c.args.disk.now c.write_into.new.disk put c.from_residual.result

pub returns-in_err-write_into-clause-still : goal.returns-in_err-write_into-clause-still
returns-in_err-write_into-clause-still g c = λ honest.
    let put = put_by g.D.Disk c.args.spare (g.W.WritesExtent.touches c.args.writer) (g.met.W.WritesExtent.is_far c.args.writer (length (g.D.Disk.content c.args.disk.now)) c.requires.can) c.args.disk.now c.shut_spare.new.disk
    (c.shut_spare.ensures.current honest) (c.shut_spare.ensures.images honest) (c.in-Ok.ensures.changed honest) (c.in-Ok.ensures.shut honest) c.write_into.new.disk honest c.write_into.ensures.writes in
    still_put g.D.Disk c.args.spare (g.W.WritesExtent.touches c.args.writer) c.args.disk.now c.write_into.new.disk put c.from_residual.result

pub returns-in_err-write_into-clause-undamaged : goal.returns-in_err-write_into-clause-undamaged
returns-in_err-write_into-clause-undamaged g c = λ honest sound.
    let agree = agree_behind (g.D.Disk.content c.args.disk.now) (g.D.Disk.is_open c.args.disk.now) c.args.spare (g.D.Disk.content c.shut_spare.new.disk) (g.D.Disk.is_open c.shut_spare.new.disk) (c.in-Ok.ensures.changed honest) in
    let undamaged = c.in_err-write_into.ensures.undamaged honest (g.met.W.WritesExtent.sound_stays c.args.writer (g.D.Disk.content c.args.disk.now) (g.D.Disk.content c.shut_spare.new.disk) agree sound) in
    search rules

pub finish-requires-clause-firm : goal.finish-requires-clause-firm
finish-requires-clause-firm g c = λ honest.
    let put = put_by g.D.Disk c.args.spare (g.W.WritesExtent.touches c.args.writer) (g.met.W.WritesExtent.is_far c.args.writer (length (g.D.Disk.content c.args.disk.now)) c.requires.can) c.args.disk.now c.shut_spare.new.disk
    (c.shut_spare.ensures.current honest) (c.shut_spare.ensures.images honest) (c.in-Ok.ensures.changed honest) (c.in-Ok.ensures.shut honest) c.write_into.new.disk honest c.write_into.ensures.writes in
    put.shut.firm

pub finish-requires-clause-shut : goal.finish-requires-clause-shut
finish-requires-clause-shut g c = λ honest.
    let put = put_by g.D.Disk c.args.spare (g.W.WritesExtent.touches c.args.writer) (g.met.W.WritesExtent.is_far c.args.writer (length (g.D.Disk.content c.args.disk.now)) c.requires.can) c.args.disk.now c.shut_spare.new.disk
    (c.shut_spare.ensures.current honest) (c.shut_spare.ensures.images honest) (c.in-Ok.ensures.changed honest) (c.in-Ok.ensures.shut honest) c.write_into.new.disk honest c.write_into.ensures.writes in
    put.shut.shut

pub finish-requires-clause-greater : goal.finish-requires-clause-greater
finish-requires-clause-greater g c = λ honest.
    let put = put_by g.D.Disk c.args.spare (g.W.WritesExtent.touches c.args.writer) (g.met.W.WritesExtent.is_far c.args.writer (length (g.D.Disk.content c.args.disk.now)) c.requires.can) c.args.disk.now c.shut_spare.new.disk
    (c.shut_spare.ensures.current honest) (c.shut_spare.ensures.images honest) (c.in-Ok.ensures.changed honest) (c.in-Ok.ensures.shut honest) c.write_into.new.disk honest c.write_into.ensures.writes in
    greater_put g.D.Disk c.args.spare (g.W.WritesExtent.touches c.args.writer) c.args.disk.now c.write_into.new.disk put c.args.body.now (c.requires.greater honest)

pub returns-in_default-finish-clause-any_moment : goal.returns-in_default-finish-clause-any_moment
returns-in_default-finish-clause-any_moment g c = λ honest.
    let put = put_by g.D.Disk c.args.spare (g.W.WritesExtent.touches c.args.writer) (g.met.W.WritesExtent.is_far c.args.writer (length (g.D.Disk.content c.args.disk.now)) c.requires.can) c.args.disk.now c.shut_spare.new.disk
    (c.shut_spare.ensures.current honest) (c.shut_spare.ensures.images honest) (c.in-Ok.ensures.changed honest) (c.in-Ok.ensures.shut honest) c.write_into.new.disk honest c.write_into.ensures.writes in
    let there = promised_there g.D.Disk c.args.spare c.args.disk.now c.shut_spare.new.disk c.write_into.new.disk (c.in-Ok.ensures.changed honest) (g.W.WritesExtent.promises c.args.writer) (g.met.W.WritesExtent.promises_stay c.args.writer) (c.in_ok-write_into.ensures.there honest) in
    while_finished g.D.Disk c.args.spare (g.W.WritesExtent.touches c.args.writer) c.args.disk.now c.write_into.new.disk put (g.W.WritesExtent.promises c.args.writer (g.D.Disk.content c.args.disk.now)) there c.args.body.now c.finish.new.disk (c.finish.ensures.current honest) (c.finish.ensures.images honest)

pub returns-clause-any_moment : goal.returns-clause-any_moment
returns-clause-any_moment g c = λ honest.
    let put = put_by g.D.Disk c.args.spare (g.W.WritesExtent.touches c.args.writer) (g.met.W.WritesExtent.is_far c.args.writer (length (g.D.Disk.content c.args.disk.now)) c.requires.can) c.args.disk.now c.shut_spare.new.disk
    (c.shut_spare.ensures.current honest) (c.shut_spare.ensures.images honest) (c.in-Ok.ensures.changed honest) (c.in-Ok.ensures.shut honest) c.write_into.new.disk honest c.write_into.ensures.writes in
    let there = promised_there g.D.Disk c.args.spare c.args.disk.now c.shut_spare.new.disk c.write_into.new.disk (c.in-Ok.ensures.changed honest) (g.W.WritesExtent.promises c.args.writer) (g.met.W.WritesExtent.promises_stay c.args.writer) (c.in_ok-write_into.ensures.there honest) in
    while_finished g.D.Disk c.args.spare (g.W.WritesExtent.touches c.args.writer) c.args.disk.now c.write_into.new.disk put (g.W.WritesExtent.promises c.args.writer (g.D.Disk.content c.args.disk.now)) there c.args.body.now c.finish.new.disk (c.finish.ensures.current honest) (c.finish.ensures.images honest)

pub returns-clause-done : goal.returns-clause-done
returns-clause-done g c = λ honest.
    let put = put_by g.D.Disk c.args.spare (g.W.WritesExtent.touches c.args.writer) (g.met.W.WritesExtent.is_far c.args.writer (length (g.D.Disk.content c.args.disk.now)) c.requires.can) c.args.disk.now c.shut_spare.new.disk
    (c.shut_spare.ensures.current honest) (c.shut_spare.ensures.images honest) (c.in-Ok.ensures.changed honest) (c.in-Ok.ensures.shut honest) c.write_into.new.disk honest c.write_into.ensures.writes in
    let there = promised_there g.D.Disk c.args.spare c.args.disk.now c.shut_spare.new.disk c.write_into.new.disk (c.in-Ok.ensures.changed honest) (g.W.WritesExtent.promises c.args.writer) (g.met.W.WritesExtent.promises_stay c.args.writer) (c.in_ok-write_into.ensures.there honest) in
    finished g.D.Disk c.args.spare (g.W.WritesExtent.touches c.args.writer) c.args.disk.now c.write_into.new.disk put (g.W.WritesExtent.promises c.args.writer (g.D.Disk.content c.args.disk.now)) there c.args.body.now c.finish.new.disk (c.in-Ok-finish.ensures.done honest).0.current (c.in-Ok-finish.ensures.done honest).1

pub returns-in_default-clause-evolves : goal.returns-in_default-clause-evolves
returns-in_default-clause-evolves g c = λ honest beside whole.
    evolves_shut (g.D.Disk.content c.args.disk.now) (g.D.Disk.is_open c.args.disk.now) c.args.spare (g.W.WritesExtent.touches c.args.writer) c.args.body.now c.requires.size c.requires.body (c.requires.firm honest) beside
    (g.D.Disk.content c.shut_spare.new.disk) (c.shut_spare.ensures.only honest) (c.shut_spare.ensures.shuts honest)

pub returns-in_err-write_into-clause-evolves : goal.returns-in_err-write_into-clause-evolves
returns-in_err-write_into-clause-evolves g c = λ honest beside.
    evolves_any c.from_residual.result (g.D.Disk.content c.args.disk.now) (g.D.Disk.content c.write_into.new.disk) c.args.spare c.args.body.now
    (until_put (g.D.Disk.content c.args.disk.now) (g.D.Disk.is_open c.args.disk.now) c.args.spare (g.W.WritesExtent.touches c.args.writer) c.args.body.now c.requires.size c.requires.body (c.requires.firm honest) beside
    (g.D.Disk.content c.shut_spare.new.disk) (c.shut_spare.ensures.only honest) (c.shut_spare.ensures.shuts honest)
    (g.D.Disk.is_open c.shut_spare.new.disk) (c.in-Ok.ensures.shut honest) (g.D.Disk.content c.write_into.new.disk) (g.D.Disk.is_open c.write_into.new.disk)
    (g.met.W.WritesExtent.is_far c.args.writer (length (g.D.Disk.content c.args.disk.now)) c.requires.can) (c.write_into.ensures.writes.changed honest))

pub returns-in_default-finish-clause-evolves : goal.returns-in_default-finish-clause-evolves
returns-in_default-finish-clause-evolves g c = λ honest beside whole.
    until_stopped (g.D.Disk.content c.args.disk.now) (g.D.Disk.is_open c.args.disk.now) c.args.spare (g.W.WritesExtent.touches c.args.writer) c.args.body.now c.requires.size c.requires.body (c.requires.firm honest) beside
    (g.D.Disk.content c.shut_spare.new.disk) (c.shut_spare.ensures.only honest) (c.shut_spare.ensures.shuts honest)
    (g.D.Disk.is_open c.shut_spare.new.disk) (c.in-Ok.ensures.shut honest) (g.D.Disk.content c.write_into.new.disk) (g.D.Disk.is_open c.write_into.new.disk)
    (g.met.W.WritesExtent.is_far c.args.writer (length (g.D.Disk.content c.args.disk.now)) c.requires.can) (c.write_into.ensures.writes.changed honest)
    (g.D.Disk.content c.finish.new.disk) (c.in_default-finish.ensures.part honest) whole

pub returns-clause-evolves : goal.returns-clause-evolves
returns-clause-evolves g c = λ honest beside.
    until_taken (g.D.Disk.content c.args.disk.now) (g.D.Disk.is_open c.args.disk.now) c.args.spare (g.W.WritesExtent.touches c.args.writer) c.args.body.now c.requires.size c.requires.body (c.requires.firm honest) beside
    (g.D.Disk.content c.shut_spare.new.disk) (c.shut_spare.ensures.only honest) (c.shut_spare.ensures.shuts honest)
    (g.D.Disk.is_open c.shut_spare.new.disk) (c.in-Ok.ensures.shut honest) (g.D.Disk.content c.write_into.new.disk) (g.D.Disk.is_open c.write_into.new.disk)
    (g.met.W.WritesExtent.is_far c.args.writer (length (g.D.Disk.content c.args.disk.now)) c.requires.can) (c.write_into.ensures.writes.changed honest)
    (g.D.Disk.content c.finish.new.disk) (c.in-Ok-finish.ensures.bytes honest)
