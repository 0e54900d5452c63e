-- A row's arcs in blocks, by the first CPUs of their classes.
use Rattle.std.specs.Prelude.{◌≡◌, ℕ, ◌<◌, ◌≤◌, ◌⊎◌, true, false, Option, Some, List, length, slice_index_or}
use Rattle.std.specs.FinSet as set
use Rattle.cpu_set.specs.Ids.{Ids}
use Rattle.transport.specs.Numbers.{number, IsIn}
use Rattle.transport.specs.Scans.{arc_at, IsBetter}
use Rattle.transport.specs.ReachedRows.{is_reached}
use Rattle.transport.specs.Searches.{is_taken, IsCovered}
use Rattle.transport.specs.declared.assignment.Assignment.{Assignment}
use Rattle.transport.specs.declared.tree.SearchTree.{SearchTree}
use Rattle.transport.specs.declared.arcs.Arc.{Arc}
use Rattle.transport.specs.declared.arcs.Block.{Block}
use Rattle.transport.specs.declared.tree.TreeClasses.{TreeClasses}

-- the CPU is the first of that class and of no other
pub record IsFirstOf (firsts : List ℕ) (g cpu : ℕ) : Type 0 where
  pub within : g < length firsts
  pub is : number firsts g ≡ cpu
  pub once : (h : ℕ) → h < length firsts → number firsts h ≡ cpu → h ≡ g

-- one of the blocks is of that weight and has the CPU
pub record InBlocks (blocks : List Block) (cpu w : ℕ) : Type 0 where
  pub index : ℕ
  pub block : Block
  pub its : (d : Block) → slice_index_or blocks index d ≡ block
  pub within : index < length blocks
  pub has : set.contains block.firsts cpu ≡ true
  pub weight : block.weight ≡ w

-- one of the first arcs is of that weight, and its class has the CPU as its first
pub record IsArcOf (firsts : List ℕ) (arcs : List Arc) (upto cpu w : ℕ) : Type 0 where
  pub index : ℕ
  pub within : index < upto
  pub first : IsFirstOf firsts (arc_at arcs index).class cpu
  pub weight : (arc_at arcs index).weight ≡ w

-- the block at a place
abbrev pub block_at : List Block → ℕ → Block
block_at blocks i = slice_index_or blocks i (record { weight = 0; firsts = set.empty })

-- one of the first arcs is of that weight
pub record IsWeightOfArc (arcs : List Arc) (upto w : ℕ) : Type 0 where
  pub index : ℕ
  pub within : index < upto
  pub weight : (arc_at arcs index).weight ≡ w

-- the blocks there weigh what they did, and those that came behind them are of that weight
pub record AreWeightsAdded (old new : List Block) (weight : ℕ) : Type 0 where
  pub longer : length old ≤ length new
  pub kept : (i : ℕ) → i < length old → (block_at new i).weight ≡ (block_at old i).weight
  pub behind : (i : ℕ) → length old ≤ i → i < length new → (block_at new i).weight ≡ weight

-- the blocks have the classes of the first arcs, at their weights, and no others, by rising weight
pub record AreBlocks (firsts : List ℕ) (arcs : List Arc) (upto : ℕ) (blocks : List Block) : Type 0 where
  pub sound : (cpu w : ℕ) → InBlocks blocks cpu w → IsArcOf firsts arcs upto cpu w
  pub all : (i : ℕ) → i < upto → InBlocks blocks (number firsts (arc_at arcs i).class) (arc_at arcs i).weight
  pub classes : (i : ℕ) → i < upto → (arc_at arcs i).class < length firsts
  pub rising : (i j : ℕ) → i ≤ j → j < length blocks → (block_at blocks i).weight ≤ (block_at blocks j).weight
  pub weights : (i : ℕ) → i < length blocks → IsWeightOfArc arcs upto (block_at blocks i).weight

-- these CPUs are the first ones of classes that are taken up
abbrev pub AreFirstsOfTaken : List ℕ → Ids → TreeClasses → Type 0
AreFirstsOfTaken firsts cpus ts = (cpu g : ℕ) → set.contains cpus cpu ≡ true → g < length firsts → number firsts g ≡ cpu → is_taken ts g ≡ true

-- and those of all that are taken up
pub record AreTakenFirsts (firsts : List ℕ) (cpus : Ids) (ts : TreeClasses) : Type 0 where
  pub only : AreFirstsOfTaken firsts cpus ts
  pub all : (g : ℕ) → g < length firsts → is_taken ts g ≡ true → set.contains cpus (number firsts g) ≡ true

-- these CPUs are the first ones of classes that are taken up, or covered from each reached row that has a weight for them; and
-- those of all that are taken up are there
pub record ArePassed (ws : ℕ → ℕ → Option ℕ) (s : Assignment) (t : SearchTree) (firsts : List ℕ) (cpus : Ids) : Type 0 where
  pub only : (cpu g k w : ℕ) → set.contains cpus cpu ≡ true → g < length firsts → number firsts g ≡ cpu → is_taken t.tree_classes g ≡ false
      → is_reached t.reached_rows k ≡ true → ws k g ≡ Some w → IsCovered s.values.items s.prices.items t.labels k g w
  pub all : (g : ℕ) → g < length firsts → is_taken t.tree_classes g ≡ true → set.contains cpus (number firsts g) ≡ true

-- a CPU more at most, where a row's value is the weight with the price
pub record IsPassedToo (old new : Ids) (cpu value reach : ℕ) : Type 0 where
  pub only : (q : ℕ) → set.contains new q ≡ true → (set.contains old q ≡ true) ⊎ ((q ≡ cpu) × (value ≡ reach))
  pub kept : (q : ℕ) → set.contains old q ≡ true → set.contains new q ≡ true

-- among these CPUs are the first ones of the classes that are listed up to a place
abbrev pub AreNoted : List ℕ → Ids → List ℕ → ℕ → Type 0
AreNoted firsts cpus order upto = (i : ℕ) → i < upto → number order i < length firsts → set.contains cpus (number firsts (number order i)) ≡ true

-- the classes whose first CPUs are in the block weigh as much in a row, and have no free CPU
abbrev pub CanLabelBlock : (ℕ → Option ℕ) → List ℕ → List ℕ → Block → Type 0
CanLabelBlock ws residual firsts block = (cpu : ℕ) → set.contains block.firsts cpu ≡ true
    → IsIn firsts cpu × ((g : ℕ) → g < length firsts → number firsts g ≡ cpu → (ws g ≡ Some block.weight) × (number residual g ≡ 0))

-- the classes of a block are labelled from a row, except for those that are left; those that are taken up need not be
pub record HasLabelledBlock (ws : ℕ → ℕ → Option ℕ) (s : Assignment) (k : ℕ) (old new : SearchTree) (firsts : List ℕ) (block : Block) (left : Ids) : Type 0 where
  pub better : IsBetter ws s old new
  pub free_end : new.labels.free_end ≡ old.labels.free_end
  pub each : (cpu g : ℕ) → set.contains block.firsts cpu ≡ true → g < length firsts → number firsts g ≡ cpu → is_taken new.tree_classes g ≡ false
      → (set.contains left cpu ≡ true) ⊎ IsCovered s.values.items s.prices.items new.labels k g block.weight

-- the classes of the first blocks are labelled from a row, or taken up
pub record HasLabelledBlocks (ws : ℕ → ℕ → Option ℕ) (s : Assignment) (k : ℕ) (old new : SearchTree) (firsts : List ℕ) (blocks : List Block) (upto : ℕ) : Type 0 where
  pub better : IsBetter ws s old new
  pub free_end : new.labels.free_end ≡ old.labels.free_end
  pub each : (cpu w g : ℕ) → (b : InBlocks blocks cpu w) → b.index < upto → g < length firsts → number firsts g ≡ cpu → is_taken new.tree_classes g ≡ false
      → IsCovered s.values.items s.prices.items new.labels k g w

-- a class of the list has the CPU as its first
pub record IsFirstIn (firsts order : List ℕ) (cpu : ℕ) : Type 0 where
  pub at : ℕ
  pub within : at < length order
  pub first : IsFirstOf firsts (number order at) cpu
