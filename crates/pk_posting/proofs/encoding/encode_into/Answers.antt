use Rattle.std.proofs.Common.{◌≡◌, length, arith, ap, sym, subst, ◌++◌}
use Rattle.pk_posting.specs.Posting.{Spells}
use Rattle.pk_posting.specs.Spelling.{spelling}
use Rattle.pk_posting.proofs.PlacingLemmas.{room_in, head_in, tail_is, all_put}
use Rattle.pk_posting.proofs.SpellingLemmas.{spelling_spells}
use Rattle.pk_posting.proofs.encoding.encode_into.Goals as goal

pub split_at_mut-head-requires : goal.split_at_mut-head-requires
split_at_mut-head-requires c = head_in c.args.xs.now _ c.requires.room

pub put_blocks-at-requires-clause-room : goal.put_blocks-at-requires-clause-room
put_blocks-at-requires-clause-room c =
    (room_in c.args.xs.now _ _ _ c.requires.room c.split_at_mut-head.ensures.front_len (omega arith)).body_room

pub put_tail-requires-clause-room : goal.put_tail-requires-clause-room
put_tail-requires-clause-room c =
    let r = room_in c.args.xs.now _ _ (length c.put_blocks-at.new.body) c.requires.room c.split_at_mut-head.ensures.front_len (omega arith) in
    let t = tail_is c.args.xs.now c.tail_at-before.result.0.now c.tail_at-before.result.1 c.tail_at-before.ensures.tail c.tail_at-before.ensures.before in
    let w = r.whole in
    omega (arith, w, ap length t, c.put_blocks-at.ensures.end)

pub returns-clause-bytes : goal.returns-clause-bytes
returns-clause-bytes c =
    let r = room_in c.args.xs.now _ _ (length c.put_tail.new.out) c.requires.room c.split_at_mut-head.ensures.front_len (omega arith) in
    let t = tail_is c.args.xs.now c.tail_at-before.result.0.now c.tail_at-before.result.1 c.tail_at-before.ensures.tail c.tail_at-before.ensures.before in
    all_put c.args.xs.now c.tail_at-before.result.0.now c.split_at_mut-head.result.0.now c.put_word.new.out c.put_blocks-at.new.head c.put_blocks-at.new.body c.put_tail.new.out
    c.put_blocks-at.result c.tail_at-before.result.1 c.put_word.ensures c.put_blocks-at.ensures.head c.put_blocks-at.ensures.end c.put_blocks-at.ensures.body
    c.put_tail.ensures t r.whole

pub returns-clause-spelled : goal.returns-clause-spelled
returns-clause-spelled c =
    let r = room_in c.args.xs.now _ _ (length c.put_tail.new.out) c.requires.room c.split_at_mut-head.ensures.front_len (omega arith) in
    let t = tail_is c.args.xs.now c.tail_at-before.result.0.now c.tail_at-before.result.1 c.tail_at-before.ensures.tail c.tail_at-before.ensures.before in
    let e : c.put_blocks-at.new.head ++ c.put_tail.new.out ≡ spelling c.args.xs.now =
    all_put c.args.xs.now c.tail_at-before.result.0.now c.split_at_mut-head.result.0.now c.put_word.new.out c.put_blocks-at.new.head c.put_blocks-at.new.body c.put_tail.new.out
    c.put_blocks-at.result c.tail_at-before.result.1 c.put_word.ensures c.put_blocks-at.ensures.head c.put_blocks-at.ensures.end c.put_blocks-at.ensures.body
    c.put_tail.ensures t r.whole in
    subst (λ bytes. Spells bytes c.args.xs.now) (sym e) (spelling_spells c.args.xs.now c.requires.posting)
