-- Letters: a kind and a number, in one byte.
use Rattle.std.specs.Prelude.{◌≡◌, ℕ, ◌+◌, ◌-◌, ◌*◌, ◌<◌, Bool, true, false, cond, List, Some, None, Option, ◌==◌, codes, nat_lt}
use Rattle.letters.specs.declared.letter.Kind.{Kind}
use Rattle.letters.specs.declared.letter.Kind.TheVariants.{Sensor, Received, Sent, Command, Tick, End}

abbrev pub numbers_a_kind : ℕ
numbers_a_kind = 32

-- one above the largest number that the type of a letter holds
abbrev pub letter_bound : ℕ
letter_bound = 256

-- the number of each kind
abbrev pub kind_number : Kind → ℕ
kind_number Sensor = 0
kind_number Received = 1
kind_number Sent = 2
kind_number Command = 3
kind_number Tick = 4
kind_number End = 5

-- what a kind prints as
abbrev pub kind_text : Kind → List ℕ
kind_text Sensor = codes "sensor"
kind_text Received = codes "received"
kind_text Sent = codes "sent"
kind_text Command = codes "command"
kind_text Tick = codes "tick"
kind_text End = codes "end"

-- how many letters a kind has, numbered from 0
abbrev pub numbers_of : Kind → ℕ
numbers_of Sensor = numbers_a_kind
numbers_of Received = numbers_a_kind
numbers_of Sent = numbers_a_kind
numbers_of Command = numbers_a_kind
numbers_of Tick = 1
numbers_of End = 1

-- the letter of a kind with a number
abbrev pub code : Kind → ℕ → ℕ
code kind number = kind_number kind * numbers_a_kind + number

abbrev pub tick : ℕ
tick = code Tick 0

abbrev pub end : ℕ
end = code End 0

-- the kind and number of a letter, or none where a byte is no letter
abbrev pub letter : ℕ → Option (Kind × ℕ)
letter b =
    cond (nat_lt b (code Received 0)) (Some (Sensor, b))
    (cond (nat_lt b (code Sent 0)) (Some (Received, b - code Received 0))
    (cond (nat_lt b (code Command 0)) (Some (Sent, b - code Sent 0))
    (cond (nat_lt b tick) (Some (Command, b - code Command 0))
    (cond (b == tick) (Some (Tick, 0))
    (cond (b == end) (Some (End, 0))
    None)))))

-- a byte is read as a kind and a number exactly where it is the letter of that kind with that number
pub record Decodes (b : ℕ) (r : Option (Kind × ℕ)) : Type 0 where
  pub every : (kind : Kind) (number : ℕ) → number < numbers_of kind → code kind number ≡ b → r ≡ Some (kind, number)
  pub only : (kind : Kind) (number : ℕ) → r ≡ Some (kind, number) → (number < numbers_of kind) × (code kind number ≡ b)

-- the kinds that a guard may insert
abbrev pub insertable_kind : Kind → Bool
insertable_kind Sensor = false
insertable_kind Received = false
insertable_kind Sent = true
insertable_kind Command = true
insertable_kind Tick = true
insertable_kind End = false

abbrev insertable_letter : Option (Kind × ℕ) → Bool
insertable_letter None = false
insertable_letter (Some l) = insertable_kind l.0

abbrev pub insertable : ℕ → Bool
insertable b = insertable_letter (letter b)
