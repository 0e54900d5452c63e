use Rattle.std.proofs.Common.{rules}
use Rattle.std.proofs.lemmas.List.Sorted.{answers_always}
use Rattle.proctable.proofs.PlaceLemmas.{searched}
use Rattle.proctable.proofs.slots.place_of.Goals as goal

-- the closure gives a process's pid
pub returns : goal.returns
returns c =
    let facts = c.binary_search_by_key.ensures in
    let by_pid = facts.position (λ s. s.process.pid) (answers_always _ _ _ (λ f a r g called. search rules)) in
    let told = searched c.requires.0 c.args.slots.now c.requires.1 c.args.pid c.binary_search_by_key.result facts.bound by_pid in
    record { found = told.0; absent = told.1 }
