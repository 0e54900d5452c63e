-- The parts of a machine, each read without fault, make a sound one.
use Rattle.std.proofs.Common.{◌≡◌, ℕ, ◌≤◌, true, List, length, map, Option, None, subst, ◌∙◌, arith}
use Rattle.std.proofs.lemmas.List.{length-map}
use Rattle.std.specs.Prelude.{◌≢◌, AllPairs}
use Rattle.std.specs.FinSet as set
use Rattle.serde_json.specs.Data.{Data}
use Rattle.cpu_set.specs.Ids.{Ids, IsDisjoint}
use Rattle.cpu_set.specs.Members.{InRange}
use Rattle.machine.specs.declared.TheConstants.{NODE_LIMIT}
use Rattle.machine.specs.Cores.{AreCores}
use Rattle.machine.specs.CoresFault.{lowest_of, size_of, cores_fault}
use Rattle.machine.specs.Distances.{AreEntries}
use Rattle.machine.specs.Index.{ArePlaces, AreSiblings, AreFirsts, IsIndexed}
use Rattle.machine.specs.IsSound.{IsSound}
use Rattle.machine.specs.Listed.{cpus_named}
use Rattle.machine.specs.Members.{items_in}
use Rattle.machine.specs.Present.{union_of}
use Rattle.machine.proofs.CoreLaws.{AreCores-read}
use Rattle.machine.proofs.SubsetLaws.{is_subset-difference, is_subset-left}

pub IsSound-parts :
    (nodes : List Ids) (distances : List ℕ) (reserved present offline online : Ids) (lowest : List ℕ) (threads : ℕ)
    → 1 ≤ length nodes → length nodes ≤ NODE_LIMIT → AllPairs IsDisjoint nodes → AreEntries (length nodes) distances
    → present ≡ union_of nodes → reserved ≢ set.empty → set.is_subset reserved present ≡ true
    → set.is_subset offline (set.difference present reserved) ≡ true → online ≡ set.difference present offline
    → AreCores (record { nodes = nodes; distances = distances; reserved = reserved; online = online; lowest = lowest; threads = threads })
    → IsSound (record { nodes = nodes; distances = distances; reserved = reserved; online = online; lowest = lowest; threads = threads })
IsSound-parts nodes distances reserved present offline online lowest threads some few apart are all reserved_some within outside left cores = record {
  some = some;
  few = few;
  apart = apart;
  distances = are;
  reserved_some = reserved_some;
  reserved_online = rw left (is_subset-left reserved present offline within outside);
  online_present = rw (left, ← all) (is_subset-difference present offline);
  cores = cores;
}

-- The same of what is read from the members of a file, over plain values.
pub IsSound-read :
    (ds : List Data) (n : ℕ) (entries distances : List ℕ) (reserved present offline online : Ids) (lowest : List ℕ) (threads : ℕ) (cores : Option Data)
    → length ds ≡ n → 1 ≤ n → n ≤ NODE_LIMIT → AllPairs IsDisjoint (map cpus_named ds) → distances ≡ entries → AreEntries n entries
    → present ≡ union_of (map cpus_named ds) → InRange present → reserved ≢ set.empty → set.is_subset reserved present ≡ true
    → set.is_subset offline (set.difference present reserved) ≡ true → online ≡ set.difference present offline
    → cores_fault (map cpus_named ds) reserved cores ≡ None → lowest ≡ lowest_of (map cpus_named (items_in cores))
    → threads ≡ size_of (map cpus_named (items_in cores))
    → IsSound (record { nodes = map cpus_named ds; distances = distances; reserved = reserved; online = online; lowest = lowest; threads = threads })
IsSound-read ds n entries distances reserved present offline online lowest threads cores long some few apart same are all in_range reserved_some within outside left none is size =
    let count : length (map cpus_named ds) ≡ n = length-map ds cpus_named ∙ long in
    let here : InRange (union_of (map cpus_named ds)) = subst InRange all in_range in
    IsSound-parts (map cpus_named ds) distances reserved present offline online lowest threads
    (omega (arith, count, some)) (omega (arith, count, few)) apart (rw (count, same) are) all reserved_some within outside left
    (AreCores-read (record { nodes = map cpus_named ds; distances = distances; reserved = reserved; online = online; lowest = lowest; threads = threads }) cores here apart none is size)

-- A machine whose lists are copies of these is indexed by copies of what was worked out of these.
pub IsIndexed-copied :
    (wanted nodes : List Ids) (given distances : List ℕ) (reserved online cpus : Ids) (said lowest : List ℕ) (threads : ℕ)
    (spots places follow next : List ℕ) (firsts : Ids)
    → nodes ≡ wanted → distances ≡ given → lowest ≡ said → places ≡ spots → next ≡ follow
    → IsSound (record { nodes = wanted; distances = given; reserved = reserved; online = online; lowest = said; threads = threads })
    → cpus ≡ union_of wanted → InRange cpus → ArePlaces wanted spots → AreSiblings said follow → AreFirsts said firsts
    → IsIndexed (record { nodes = nodes; distances = distances; reserved = reserved; online = online; lowest = lowest; threads = threads }) cpus places next firsts
IsIndexed-copied wanted nodes given distances reserved online cpus said lowest threads spots places follow next firsts e f g h i sound all in_range placed siblings low =
    rw (e, f, g, h, i) (record { sound = sound; all = all; in_range = in_range; places = placed; siblings = siblings; firsts = low })
