-- What was read is confirmed.
use Rattle.std.proofs.Common.{◌≡◌, ◌≤◌, ◌^◌, true, false, length, drop, sym, ◌∙◌, refl, arith, rules}
use Rattle.std.proofs.lemmas.Result.{err_from_is_err_and}
use Rattle.pk_manifest.specs.declared.manifest.Manifest.{Manifest}
use Rattle.pk_manifest.specs.Sound.{IsBody}
use Rattle.pk_manifest.specs.Spelling.{spelling, table_of, view}
use Rattle.pk_manifest.proofs.Evolving.{evolves_here, evolves_then}
use Rattle.pk_snapshot.proofs.CallLemmas.{fails_then, fails_within}
use Rattle.pk_snapshot.proofs.FoundLemmas.{filled_vec, found, misplaced_body, of_none, of_some, seen_at, sound_own, undecoded}
use Rattle.pk_snapshot.proofs.SeenLemmas.{other_wider}
use Rattle.pk_snapshot.proofs.looking.read_manifest.Goals as goal

pub returns-clause-found : goal.returns-clause-found
returns-clause-found g c = λ h low.
    let f = g.F.SharedFile in
    let start = f.content c.args.file.now in
    let one = f.content c.read_whole.new.file in
    let two = f.content c.read_whole-2.new.file in
    let new = f.content c.confirm-2.new.file in
    let out = c.read_whole.new.out in
    let entries = c.read_whole-2.new.out in
    let units = c.in-Some.field-0.units in
    let table = c.in-Some.field-0.table in
    let m = c.in-Some-decoded.manifest in
    let size : length c.deref_mut.result.now ≡ table.bytes = search rules in
    let count : length entries ≡ table.bytes = c.read_whole-2.auto.out ∙ size in
    let whole : c.deref.result.now ≡ entries = c.deref.ensures.value ∙ filled_vec c.in-Ok-vec.entries.len entries (drop (length entries) c.in-Ok-vec.entries.items) (let l : length entries ≡ c.in-Ok-vec.entries.len = search rules in l) in
    found start one two new c.args.half c.args.generation low (c.read_whole.ensures.evolves h) (c.read_whole-2.ensures.evolves h) (c.in_ok-confirm-2.ensures.given h)
    (c.requires.size h) c.args.units (c.requires.units h) c.body.result c.body.ensures out entries c.read_whole.auto.out
    (seen_at start one c.body.result c.body.result _ 8192 out refl refl (c.in-Ok.ensures.given h))
    units table c.in-Some.ensures.found count
    (seen_at one two c.start.result _ _ table.bytes entries c.start.ensures size (c.in-Ok-read_whole.ensures.given h))
    (view m)
    (of_some (λ (x : Manifest). IsBody units (view x)) c.in-Ok-decode.decoded m c.in-Some-decoded.is c.in-Ok-decode.ensures.found)
    (of_some (λ (x : Manifest). out ≡ spelling (view x)) c.in-Ok-decode.decoded m c.in-Some-decoded.is c.in-Ok-decode.ensures.spelled)
    (sym whole ∙ of_some (λ (x : Manifest). c.deref.result.now ≡ table_of (view x)) c.in-Ok-decode.decoded m c.in-Some-decoded.is c.in-Ok-decode.ensures.tabled)

pub returns-in_default-said_of-clause-refused : goal.returns-in_default-said_of-clause-refused
returns-in_default-said_of-clause-refused g c = λ h low.
    let f = g.F.SharedFile in
    let start = f.content c.args.file.now in
    let one = f.content c.read_whole.new.file in
    let out = c.read_whole.new.out in
    misplaced_body start one (f.content c.confirm.new.file) c.args.half c.args.generation low (c.read_whole.ensures.evolves h) (c.in_ok-confirm.ensures.given h)
    (c.requires.size h) c.args.units (c.requires.units h) c.body.result c.body.ensures out c.read_whole.auto.out
    (seen_at start one c.body.result c.body.result _ 8192 out refl refl (c.in-Ok.ensures.given h))
    c.in_default-said_of.ensures.none

pub returns-in-None-clause-refused : goal.returns-in-None-clause-refused
returns-in-None-clause-refused g c = λ h low.
    let f = g.F.SharedFile in
    let start = f.content c.args.file.now in
    let one = f.content c.read_whole.new.file in
    let two = f.content c.read_whole-2.new.file in
    let new = f.content c.confirm-2.new.file in
    let out = c.read_whole.new.out in
    let entries = c.read_whole-2.new.out in
    let units = c.in-Some.field-0.units in
    let table = c.in-Some.field-0.table in
    let size : length c.deref_mut.result.now ≡ table.bytes = search rules in
    let count : length entries ≡ table.bytes = c.read_whole-2.auto.out ∙ size in
    let whole : c.deref.result.now ≡ entries = c.deref.ensures.value
    ∙ filled_vec c.in-Ok-vec.entries.len entries (drop (length entries) c.in-Ok-vec.entries.items) (let l : length entries ≡ c.in-Ok-vec.entries.len = search rules in l) in
    undecoded start one two new c.args.half c.args.generation low (c.read_whole.ensures.evolves h) (c.read_whole-2.ensures.evolves h) (c.in_ok-confirm-2.ensures.given h)
    (c.requires.size h) c.args.units (c.requires.units h) c.body.result c.body.ensures out entries c.read_whole.auto.out
    (seen_at start one c.body.result c.body.result _ 8192 out refl refl (c.in-Ok.ensures.given h))
    units table c.in-Some.ensures.found count
    (seen_at one two c.start.result _ _ table.bytes entries c.start.ensures size (c.in-Ok-read_whole.ensures.given h))
    (λ b sound spelled tabled. of_none {X = Manifest} _ c.in-Ok-decode.decoded c.in-None.is c.in-Ok-decode.ensures.none b sound spelled (whole ∙ tabled))

pub returns-clause-sound : goal.returns-clause-sound
returns-clause-sound g c =
    let units = c.in-Some.field-0.units in
    let m = c.in-Some-decoded.manifest in
    sound_own units (view m) (of_some (λ (x : Manifest). IsBody units (view x)) c.in-Ok-decode.decoded m c.in-Some-decoded.is c.in-Ok-decode.ensures.found)

pub returns-in_default-read_whole-clause-fails : goal.returns-in_default-read_whole-clause-fails
returns-in_default-read_whole-clause-fails g c = λ h.
    let f = g.F.SharedFile in
    let size : length c.deref_mut.result.now ≡ c.in-Some.field-0.table.bytes = search rules in
    let few : c.in-Some.field-0.table.bytes ≤ 2 ^ 32 = search rules in
    fails_then f.failed f.interrupted (2 ^ 32) true _ _ _ (fails_within f.failed f.interrupted _ (2 ^ 32) false _ _ (omega arith) (c.in-Ok.ensures.fails h))
    (fails_within f.failed f.interrupted _ (2 ^ 32) true _ _ (omega (arith, size, few)) (c.in_default-read_whole.ensures.fails h))

pub returns-in_err-confirm-2-clause-fails : goal.returns-in_err-confirm-2-clause-fails
returns-in_err-confirm-2-clause-fails g c = λ h.
    let f = g.F.SharedFile in
    let size : length c.deref_mut.result.now ≡ c.in-Some.field-0.table.bytes = search rules in
    let few : c.in-Some.field-0.table.bytes ≤ 2 ^ 32 = search rules in
    let p = err_from_is_err_and c.from_residual-in_err-confirm-2.result c.from_residual-in_err-confirm-2.ensures.1 in
    rw (p.1, p.2)
    (fails_then f.failed f.interrupted (2 ^ 32) _ _ _ _ (fails_within f.failed f.interrupted _ (2 ^ 32) false _ _ (omega arith) (c.in-Ok.ensures.fails h))
    (fails_then f.failed f.interrupted (2 ^ 32) _ _ _ _ (fails_within f.failed f.interrupted _ (2 ^ 32) false _ _ (omega (arith, size, few)) (c.in-Ok-read_whole.ensures.fails h))
    (fails_within f.failed f.interrupted 0 (2 ^ 32) _ _ _ (omega arith) (c.in_err-confirm-2.ensures.fails h))))

pub returns-in_err-confirm-clause-changed : goal.returns-in_err-confirm-clause-changed
returns-in_err-confirm-clause-changed g c = λ h.
    let f = g.F.SharedFile in
    let new = f.content c.confirm.new.file in
    let p = err_from_is_err_and c.from_residual.result c.from_residual.ensures.1 in
    rw (p.1, p.2) (λ is. other_wider (f.content c.args.file.now) (f.content c.read_whole.new.file) new new c.args.half c.args.generation
    (c.read_whole.ensures.evolves h) (c.in_err-confirm.ensures.changed h is) (evolves_here new))

pub returns-in_err-confirm-2-clause-changed : goal.returns-in_err-confirm-2-clause-changed
returns-in_err-confirm-2-clause-changed g c = λ h.
    let f = g.F.SharedFile in
    let new = f.content c.confirm-2.new.file in
    let p = err_from_is_err_and c.from_residual-in_err-confirm-2.result c.from_residual-in_err-confirm-2.ensures.1 in
    rw (p.1, p.2) (λ is. other_wider (f.content c.args.file.now) (f.content c.read_whole-2.new.file) new new c.args.half c.args.generation
    (evolves_then _ _ _ (c.read_whole.ensures.evolves h) (c.read_whole-2.ensures.evolves h)) (c.in_err-confirm-2.ensures.changed h is) (evolves_here new))
