-- Small property files, the plate property's first, and what holds of each.
use Rattle.std.specs.Prelude.{ℕ, List, [], ◌∷◌, ◌++◌, length, All}
use Rattle.letters.specs.Letters.{tick, end}
use Rattle.cases.specs.Claims.{Claim, HasSize, NoBeginning, Owes, Spans, Refuses, Writes, Row, Holds}

-- a record of a file: the length of its body, its kind, and the body
abbrev pub written : ℕ → List ℕ → List ℕ
written kind body = length body ∷ 0 ∷ kind ∷ 0 ∷ body

abbrev pub declare : ℕ → List ℕ
declare letter = written 1 (letter ∷ [])

abbrev pub nothing : List ℕ
nothing = written 2 []

-- a letter, and the node that it goes on with
abbrev pub branch : ℕ → ℕ → List ℕ
branch letter n = letter ∷ n ∷ 0 ∷ []

abbrev pub choice : List ℕ → List ℕ
choice branches = written 3 branches

abbrev pub both : ℕ → ℕ → List ℕ
both a b = written 5 (a ∷ 0 ∷ b ∷ 0 ∷ [])

abbrev pub lap : ℕ → List ℕ
lap a = written 6 (a ∷ 0 ∷ [])

abbrev pub all : ℕ → ℕ → List ℕ
all a b = written 7 (a ∷ 0 ∷ b ∷ 0 ∷ [])

abbrev pub clamp : ℕ
clamp = 96

abbrev pub turn : ℕ
turn = 97

abbrev pub back : ℕ
back = 98

abbrev pub release : ℕ
release = 99

-- a cycle clamps and releases, and may turn and turn back between; or it is empty
abbrev pub plate : List ℕ
plate =
    declare clamp ++ declare turn ++ declare back ++ declare release
    ++ nothing
    ++ choice (branch end 0)
    ++ choice (branch release 1)
    ++ choice (branch back 2)
    ++ choice (branch turn 3 ++ branch release 1)
    ++ choice (branch clamp 4 ++ branch end 0)
    ++ lap 5

-- a cycle is a letter of a sensor
abbrev pub sensed : List ℕ
sensed = declare 0 ++ nothing ++ choice (branch end 0) ++ choice (branch 0 1) ++ lap 2

-- or the tick
abbrev pub sensed_or_ticked : List ℕ
sensed_or_ticked = declare 0 ++ nothing ++ choice (branch end 0) ++ choice (branch 0 1 ++ branch tick 1) ++ lap 2

-- a Both: a cycle clamps and releases or only releases, and it clamps or releases
abbrev pub both_at_once : List ℕ
both_at_once =
    declare clamp ++ declare release
    ++ nothing
    ++ choice (branch end 0)
    ++ choice (branch release 1)
    ++ choice (branch clamp 2 ++ branch release 1)
    ++ choice (branch clamp 1 ++ branch release 1)
    ++ both 3 4
    ++ lap 5

-- an All: each cycle clamps or releases, and of two cycles the first clamps and the second releases
abbrev pub in_turns : List ℕ
in_turns =
    declare clamp ++ declare release
    ++ nothing
    ++ choice (branch end 0)
    ++ choice (branch clamp 1 ++ branch release 1)
    ++ lap 2
    ++ choice (branch release 1)
    ++ choice (branch end 4)
    ++ choice (branch clamp 5)
    ++ lap 6
    ++ all 3 7

abbrev row : List ℕ → Claim → Row
row file claim = record { file = file; claim = claim }

abbrev pub plate_cases : List Row
plate_cases =
    row plate (HasSize 5)
    ∷ row plate (NoBeginning (clamp ∷ turn ∷ release ∷ []))
    ∷ row plate (Owes (clamp ∷ turn ∷ []) 2)
    ∷ row plate (Spans (clamp ∷ turn ∷ []) 2)
    ∷ row plate (Owes [] 0)
    ∷ row plate (Spans [] 4)
    ∷ row sensed (Refuses 15)
    ∷ row sensed_or_ticked (Owes [] 1)
    ∷ row both_at_once (HasSize 6)
    ∷ row both_at_once (NoBeginning (clamp ∷ []))
    ∷ row in_turns (HasSize 8)
    ∷ row in_turns (Writes 2 (clamp ∷ end ∷ release ∷ end ∷ []))
    ∷ []

-- every row holds
abbrev pub PlateCasesHold : Type 0
PlateCasesHold = All Holds plate_cases
