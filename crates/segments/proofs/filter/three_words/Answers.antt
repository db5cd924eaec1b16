use Rattle.std.proofs.Common.{◌∷◌, [], Some, None, refl}
use Rattle.segments.proofs.Reading.{first_item, no_item}
use Rattle.segments.proofs.filter.three_words.Goals as goal

pub returns-in_err-next : goal.returns-in_err-next
returns-in_err-next c = rw c.from_residual.ensures (λ a b d h. (first_item _ _ None a (b ∷ d ∷ []) c.split_whitespace-words.ensures.rest c.in_err-next.ensures.steps h).0)

pub returns-in_err-next-2 : goal.returns-in_err-next-2
returns-in_err-next-2 c = rw c.from_residual-in_err-next-2.ensures (λ a b d h.
    let first = first_item c.split_whitespace-words.result c.next.new.self (Some c.in_ok-next.field-0) a (b ∷ d ∷ []) c.split_whitespace-words.ensures.rest c.in_ok-next.ensures.steps h in
    (first_item c.next.new.self c.next-2.new.self None b (d ∷ []) refl c.in_err-next-2.ensures.steps first.1).0)

pub returns-in_err-next-3 : goal.returns-in_err-next-3
returns-in_err-next-3 c = rw c.from_residual-in_err-next-3.ensures (λ a b d h.
    let first = first_item c.split_whitespace-words.result c.next.new.self (Some c.in_ok-next.field-0) a (b ∷ d ∷ []) c.split_whitespace-words.ensures.rest c.in_ok-next.ensures.steps h in
    let second = first_item c.next.new.self c.next-2.new.self (Some c.in_ok-next-2.field-0) b (d ∷ []) refl c.in_ok-next-2.ensures.steps first.1 in
    (first_item c.next-2.new.self c.next-3.new.self None d [] refl c.in_err-next-3.ensures.steps second.1).0)

pub returns-in-Some : goal.returns-in-Some
returns-in-Some c = λ a b d h.
    let first = first_item c.split_whitespace-words.result c.next.new.self (Some c.in_ok-next.field-0) a (b ∷ d ∷ []) c.split_whitespace-words.ensures.rest c.in_ok-next.ensures.steps h in
    let second = first_item c.next.new.self c.next-2.new.self (Some c.in_ok-next-2.field-0) b (d ∷ []) refl c.in_ok-next-2.ensures.steps first.1 in
    let third = first_item c.next-2.new.self c.next-3.new.self (Some c.in_ok-next-3.field-0) d [] refl c.in_ok-next-3.ensures.steps second.1 in
    no_item c.next-3.new.self c.next-4.new.self (Some c.in-Some.field-0) c.in-Some.ensures.steps third.1
