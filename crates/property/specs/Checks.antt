-- What a file makes: its declared letters and its nodes, or the fault that it gets. Records are checked in file order,
-- each by rising number of its fault.
use Rattle.std.specs.Prelude.{ℕ, suc, ◌-◌, Bool, true, false, cond, not, ◌&&◌, ◌||◌, ltb, List, [], ◌∷◌, ◌++◌, map, length, Some, None, Ok, Err, Option, Result, ◌==◌, nat_le, nat_lt, slice_index}
use Rattle.std.specs.List.{list_all}
use Rattle.letters.specs.Alphabets.{among, bare, barred, ascending_from}
use Rattle.records.specs.declared.fault.ReadFault.{ReadFault}
use Rattle.records.specs.Readings.{Item, reading}
use Rattle.property.specs.declared.fault.PropertyFault.{PropertyFault}
use Rattle.property.specs.declared.fault.PropertyFault.TheVariants.{Read, Declaration, TooManyNodes, NotEarlier, WrongKind, BranchLetter, OpenLap, NoProperty}
use Rattle.property.specs.Closing.{closes}
use Rattle.property.specs.Nodes.{Node, Nothing, Choice, Sequence, Both, Lap, All, node, node_of, is_loop}
use Rattle.property.specs.Traces.{last_node}

abbrev pub most_nodes : ℕ
most_nodes = 256

-- what has been read: the letters declared, and the nodes
pub record Parts : Type 0 where
  pub declared : List ℕ
  pub nodes : List Node

-- the alphabet of the letters declared
abbrev pub alphabet_of : Parts → List ℕ
alphabet_of s = s.declared ++ bare

-- one above the last letter declared
abbrev pub least_past : List ℕ → ℕ
least_past ds = cond (length ds == 0) 0 (suc (slice_index ds (length ds - 1)))

-- a byte that may not be declared next; none may after a node
abbrev pub barred_next : Parts → ℕ → Bool
barred_next s b = nat_lt 0 (length s.nodes) || barred (least_past s.declared) (length s.declared) b

-- the numbers of the nodes that a node names
abbrev pub names : Node → List ℕ
names Nothing = []
names (Choice bs) = map (λ (b : ℕ × ℕ). b.1) bs
names (Sequence a b) = a ∷ b ∷ []
names (Both a b) = a ∷ b ∷ []
names (Lap a) = a ∷ []
names (All a b) = a ∷ b ∷ []

-- the nodes named are earlier
abbrev pub named_earlier : List Node → Node → Bool
named_earlier nodes n = list_all (λ m. ltb m (length nodes)) (names n)

abbrev pub same : Bool → Bool → Bool
same true b = b
same false b = not b

-- an All names nodes of kinds 6 and 7, every other node those of kinds 2 to 5
abbrev pub names_loops : Node → Bool
names_loops Nothing = false
names_loops (Choice bs) = false
names_loops (Sequence a b) = false
names_loops (Both a b) = false
names_loops (Lap a) = false
names_loops (All a b) = true

abbrev pub named_kinds : List Node → Node → Bool
named_kinds nodes n = list_all (λ m. same (names_loops n) (is_loop (node nodes m))) (names n)

-- the letters of a node's branches
abbrev pub branch_letters : Node → List ℕ
branch_letters Nothing = []
branch_letters (Choice bs) = map (λ (b : ℕ × ℕ). b.0) bs
branch_letters (Sequence a b) = []
branch_letters (Both a b) = []
branch_letters (Lap a) = []
branch_letters (All a b) = []

-- strictly ascending, and in the alphabet
abbrev pub letters_in_order : List ℕ → Node → Bool
letters_in_order alphabet n = ascending_from 0 (branch_letters n) && list_all (λ l. among l alphabet) (branch_letters n)

-- a Lap stands over a node that closes
abbrev pub lap_closes : List Node → Node → Bool
lap_closes nodes Nothing = true
lap_closes nodes (Choice bs) = true
lap_closes nodes (Sequence a b) = true
lap_closes nodes (Both a b) = true
lap_closes nodes (Lap a) = closes nodes a
lap_closes nodes (All a b) = true

-- what is wrong with a node after the earlier ones
abbrev pub node_fault : Parts → Node → ℕ → Option PropertyFault
node_fault s n at =
    cond (nat_le most_nodes (length s.nodes)) (Some (TooManyNodes at))
    (cond (not (named_earlier s.nodes n)) (Some (NotEarlier at))
    (cond (not (named_kinds s.nodes n)) (Some (WrongKind at))
    (cond (not (letters_in_order (alphabet_of s) n)) (Some (BranchLetter at))
    (cond (not (lap_closes s.nodes n)) (Some (OpenLap at))
    None))))

abbrev pub with_letter : Parts → ℕ → Parts
with_letter s b = record { declared = s.declared ++ b ∷ []; nodes = s.nodes }

abbrev pub with_node : Parts → Node → Parts
with_node s n = record { declared = s.declared; nodes = s.nodes ++ n ∷ [] }

abbrev pub unless : Option PropertyFault → Parts → Result Parts PropertyFault
unless None s = Ok s
unless (Some fault) s = Err fault

-- one record
unfoldable pub judge : Parts → Item → Result Parts PropertyFault
judge s i =
    cond (i.kind == 1)
    (cond (barred_next s (slice_index i.body 0)) (Err (Declaration i.offset)) (Ok (with_letter s (slice_index i.body 0))))
    (unless (node_fault s (node_of i.kind i.body) i.offset) (with_node s (node_of i.kind i.body)))

abbrev pub then_judge : (Parts → Result Parts PropertyFault) → Result Parts PropertyFault → Result Parts PropertyFault
then_judge rest (Ok s) = rest s
then_judge rest (Err fault) = Err fault

-- records in order, up to the first fault
unfoldable pub judge_all : Parts → List Item → Result Parts PropertyFault
judge_all s [] = Ok s
judge_all s (i ∷ is) = then_judge (λ t. judge_all t is) (judge s i)

-- there is a node, and the last is of kind 6 or 7
abbrev pub has_property : Parts → Bool
has_property s = nat_lt 0 (length s.nodes) && is_loop (node s.nodes (last_node s.nodes))

-- after the last record: the reader's fault, or that there is no property
abbrev pub at_end : ℕ → Option ReadFault → Parts → Result Parts PropertyFault
at_end length_of_file (Some fault) s = Err (Read fault)
at_end length_of_file None s = cond (has_property s) (Ok s) (Err (NoProperty length_of_file))

abbrev pub no_parts : Parts
no_parts = record { declared = []; nodes = [] }

-- what a file makes
unfoldable pub checked : List ℕ → Result Parts PropertyFault
checked file = then_judge (at_end (length file) (reading file).fault) (judge_all no_parts (reading file).items)
