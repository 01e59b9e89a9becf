use Rattle.std.proofs.Common.{rules, ◌≡◌, ◌/◌, ◌∷◌, length, slice_index, arith, refl, sym, ap, ◌∙◌}
use Rattle.pk_posting.proofs.LeastLemmas.{too_short}
use Rattle.pk_posting.proofs.WholeLemmas.{whole, only_list, no_list, memory_only}
use Rattle.pk_posting.proofs.decoding.decode.Goals as goal

pub returns-in_err-read_tail-clause-damaged : goal.returns-in_err-read_tail-clause-damaged
returns-in_err-read_tail-clause-damaged c =
    let r = c.in_ok-start.ensures.read in
    let l : c.last_number-before.result ≡ slice_index (0 ∷ c.read_blocks.new.out.items) (length c.read_blocks.new.out.items) =
    c.last_number-before.ensures ∙ ap (λ xs. slice_index (0 ∷ xs) (length xs)) c.deref.ensures.value in
    let n = no_list c.args.bytes.now c.word_at-count.result (c.word_at-count.result / 128) c.read_blocks.new.out.items r.0 c.in_ok-start.start r.1 c.last_number-before.result
    (sym c.word_at-count.ensures) refl r.2 l c.in_err-read_tail.field-0.0 c.in_err-read_tail.ensures.damaged in
    let h = c.from_residual-in_err-read_tail.ensures in
    search rules

pub returns-clause-list : goal.returns-clause-list
returns-clause-list c =
    let r = c.in_ok-start.ensures.read in
    let l : c.last_number-before.result ≡ slice_index (0 ∷ c.read_blocks.new.out.items) (length c.read_blocks.new.out.items) =
    c.last_number-before.ensures ∙ ap (λ xs. slice_index (0 ∷ xs) (length xs)) c.deref.ensures.value in
    whole c.args.bytes.now c.word_at-count.result (c.word_at-count.result / 128) c.read_blocks.new.out.items r.0 c.in_ok-start.start r.1 c.last_number-before.result
    c.read_tail.new.out.items (omega arith) (sym c.word_at-count.ensures) (omega arith) refl r.2 l c.in_ok-read_tail.ensures.read

pub returns-then-bytes-least_length-clause-damaged : goal.returns-then-bytes-least_length-clause-damaged
returns-then-bytes-least_length-clause-damaged c xs s =
    too_short c.args.bytes.now xs c.word_at-count.result s (sym s.count ∙ sym c.word_at-count.ensures) (omega arith)

pub returns-then-bytes-least_length-clause-spelled : goal.returns-then-bytes-least_length-clause-spelled
returns-then-bytes-least_length-clause-spelled c xs s =
    absurd (too_short c.args.bytes.now xs c.word_at-count.result s (sym s.count ∙ sym c.word_at-count.ensures) (omega arith))

pub returns-in_err-read_tail-clause-spelled : goal.returns-in_err-read_tail-clause-spelled
returns-in_err-read_tail-clause-spelled c xs s =
    let r = c.in_ok-start.ensures.read in
    let l : c.last_number-before.result ≡ slice_index (0 ∷ c.read_blocks.new.out.items) (length c.read_blocks.new.out.items) =
    c.last_number-before.ensures ∙ ap (λ xs. slice_index (0 ∷ xs) (length xs)) c.deref.ensures.value in
    let n = no_list c.args.bytes.now c.word_at-count.result (c.word_at-count.result / 128) c.read_blocks.new.out.items r.0 c.in_ok-start.start r.1 c.last_number-before.result
    (sym c.word_at-count.ensures) refl r.2 l c.in_err-read_tail.field-0.0 c.in_err-read_tail.ensures.damaged in
    let m = memory_only c.args.bytes.now c.in_err-read_tail.field-0.0 n xs s in
    let h = c.from_residual-in_err-read_tail.ensures in
    search rules

pub returns-clause-spelled : goal.returns-clause-spelled
returns-clause-spelled c xs s =
    let r = c.in_ok-start.ensures.read in
    let l : c.last_number-before.result ≡ slice_index (0 ∷ c.read_blocks.new.out.items) (length c.read_blocks.new.out.items) =
    c.last_number-before.ensures ∙ ap (λ xs. slice_index (0 ∷ xs) (length xs)) c.deref.ensures.value in
    sym (only_list c.args.bytes.now c.word_at-count.result (c.word_at-count.result / 128) c.read_blocks.new.out.items r.0 c.in_ok-start.start r.1 c.last_number-before.result
    c.read_tail.new.out.items (sym c.word_at-count.ensures) refl r.2 l c.in_ok-read_tail.ensures.read xs s)

pub returns-clause-memory : goal.returns-clause-memory
returns-clause-memory c =
    c.in_ok-read_tail.ensures.memory ∙ c.in_ok-start.ensures.memory ∙ c.in_ok-out.ensures.exact ∙ c.word_at-count.ensures ∙ (returns-clause-list c).count
