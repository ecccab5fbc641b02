-- What synthesis makes of a file: the refusal that it gets, or a table that admits exactly the beginnings of its property.
use Rattle.std.specs.Prelude.{◌≡◌, ℕ, ◌*◌, ◌<◌, ◌≤◌, ◌↔◌, List, [], ◌∷◌, ◌++◌, length, Ok, Err, Result, slice_index}
use Rattle.letters.specs.Declarations.{letters_of}
use Rattle.letters.specs.Letters.{end}
use Rattle.letters.specs.declared.alphabet.Alphabet.{Alphabet}
use Rattle.records.specs.Readings.{reading}
use Rattle.rules.specs.Lists.{Admits, Insertable}
use Rattle.rules.specs.Meaning.{Lawful}
use Rattle.rules.specs.Tabled.{no_row, width, tabled}
use Rattle.property.specs.Checks.{Parts, alphabet_of, checked}
use Rattle.property.specs.Nodes.{Node}
use Rattle.property.specs.Placed.{last_offset}
use Rattle.property.specs.Sized.{most_size}
use Rattle.property.specs.Sizes.{size}
use Rattle.property.specs.Traces.{PropertyBeginning, last_node}
use Rattle.synthesis.specs.declared.fault.SynthesisFault.{SynthesisFault}
use Rattle.synthesis.specs.declared.fault.SynthesisFault.TheVariants.{Property, TooLarge, TableMemory, WorkingMemory, Stuck}
use Rattle.synthesis.specs.Table.{AllAre}
use Rattle.synthesis.specs.Own.{Own}

-- the size of a property
abbrev pub property_size : Parts → ℕ
property_size parts = size parts.nodes (last_node parts.nodes)

-- the numbers that a table of the property may need: a row for each place
abbrev pub table_room : Parts → ℕ
table_room parts = property_size parts * width (alphabet_of parts)

abbrev pub work_room : Parts → ℕ
work_room parts = 4 * property_size parts

-- some beginning that no insertable list followed by the end extends to a beginning
abbrev pub Strands : List Node → Type 0
Strands nodes =
    (t : List ℕ) × PropertyBeginning nodes t × ((u : List ℕ) → Insertable u → PropertyBeginning nodes (t ++ (u ++ end ∷ [])) → ⊥)

-- the file passes the checks with these parts, and its last record begins at this offset
pub record Checked (file : List ℕ) (parts : Parts) (at : ℕ) : Type 0 where
  pub passes : checked file ≡ Ok parts
  pub last : at ≡ last_offset 0 (reading file).items

-- and the property is small, and memories of these lengths suffice for it
pub record Fits (file : List ℕ) (room work : ℕ) (parts : Parts) (at : ℕ) : Type 0 where
  pub passes : Checked file parts at
  pub small : property_size parts ≤ most_size
  pub table_fits : table_room parts ≤ room
  pub work_fits : work_room parts ≤ work

-- which refusal a file gets with memories of these lengths
abbrev pub Refused : List ℕ → ℕ → ℕ → SynthesisFault → Type 0
Refused file room work (Property fault) = checked file ≡ Err fault
Refused file room work (TooLarge at) = (parts : Parts) × Checked file parts at × (most_size < property_size parts)
Refused file room work (TableMemory at) =
    (parts : Parts) × Checked file parts at × (property_size parts ≤ most_size) × (room < table_room parts)
Refused file room work (WorkingMemory at) =
    (parts : Parts) × Checked file parts at × (property_size parts ≤ most_size) × (table_room parts ≤ room) × (work < work_room parts)
Refused file room work (Stuck at) = (parts : Parts) × Fits file room work parts at × Strands parts.nodes

-- what is lent to synthesis: the alphabet's place, the table memory and the working memory
pub record Lent : Type 0 where
  pub alphabet : Alphabet
  pub table : List ℕ
  pub work : List ℕ

abbrev pub lent : Alphabet → List ℕ → List ℕ → Lent
lent alphabet table work = record { alphabet = alphabet; table = table; work = work }

-- a refusal leaves what is lent as it was, but a stranded beginning clears the memories
pub record Cleared (before after : Lent) : Type 0 where
  pub alphabet : after.alphabet ≡ before.alphabet
  pub table : AllAre no_row after.table
  pub work : AllAre 0 after.work

abbrev pub Left : SynthesisFault → Lent → Lent → Type 0
Left (Property fault) before after = after ≡ before
Left (TooLarge at) before after = after ≡ before
Left (TableMemory at) before after = after ≡ before
Left (WorkingMemory at) before after = after ≡ before
Left (Stuck at) before after = Cleared before after

-- the table of a property, in so many rows
pub record TableOf (parts : Parts) (table : List ℕ) (rows : ℕ) : Type 0 where
  pub lawful : Lawful (tabled (alphabet_of parts) table rows)
  -- from row 0 it admits exactly the beginnings of the property
  pub admits : (t : List ℕ) → Admits (tabled (alphabet_of parts) table rows) t ↔ PropertyBeginning parts.nodes t
  pub some_row : 0 < rows
  pub few : rows ≤ property_size parts
  pub room : rows * width (alphabet_of parts) ≤ length table
  -- each row is reached, and owed, span and lead are exact
  pub own : Own (alphabet_of parts) table rows
  -- the rest of the memory holds no row
  pub rest : (k : ℕ) → rows * width (alphabet_of parts) ≤ k → k < length table → slice_index table k ≡ no_row

pub record Synthesized (file : List ℕ) (before : Lent) (rows : ℕ) (after : Lent) : Type 0 where
  pub parts : Parts
  pub at : ℕ
  pub fits : Fits file (length before.table) (length before.work) parts at
  pub free : Strands parts.nodes → ⊥
  pub alphabet : letters_of after.alphabet ≡ alphabet_of parts
  pub table : TableOf parts after.table rows
  pub work : AllAre 0 after.work

-- what synthesis answers, and what it leaves
abbrev pub Synthesis : List ℕ → Lent → Result ℕ SynthesisFault → Lent → Type 0
Synthesis file before (Ok rows) after = Synthesized file before rows after
Synthesis file before (Err fault) after = Refused file (length before.table) (length before.work) fault × Left fault before after
