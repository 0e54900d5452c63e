-- A script beside strangers is a script over the runtime within.
use Rattle.std.proofs.Common.{◌≡◌, ℕ, zero, suc, ◌+◌, ◌<◌, ◌≤◌, Bool, true, false, cond, if◌then◌else◌, List, [], ◌∷◌, ◌++◌, map, filter, Option, Some, None, Ok, Err, refl, sym, ap, subst, arith, lit≤, add-one, append-nil, map-id}
use Rattle.std.specs.List.{flat_map, range_with_len}
use Rattle.std.proofs.lemmas.List.{map-append}
use Rattle.std.proofs.lemmas.List.FromFn.{filter_of_map_range_with_len_more}
use Rattle.std.specs.FinSet as set
use Rattle.cpu_set.specs.Ids.{Ids}
use Rattle.cpu_set.specs.Members.{InRange, cpus, members}
use Rattle.cpu_set.specs.declared.TheConstants.{CPU_LIMIT}
use Rattle.kernel_model.specs.Refusals.{offline_refusal, online_refusal}
use Rattle.node.specs.IsNode.{IsNode}
use Rattle.node.specs.Machine.{RunsKeep}
use Rattle.node.specs.NodeState.{NodeState}
use Rattle.script.specs.Commands.{Asked}
use Rattle.script.specs.Commands as ask
use Rattle.script.specs.CpuLines.{CpuLinesAreRead, IsRead, offline_line, online_line}
use Rattle.script.specs.Lines.{line_kept, lines_of, words_of}
use Rattle.script.specs.declared.fault.ScriptFault.TheVariants.{Read, TooManyReads, Write}
use Rattle.script.specs.Requests.{Wanted, nothing, bad, asks, request_of}
use Rattle.script.specs.Runs.{AnswersLine, AnswersRequest, Runs}
use Rattle.runtime.specs.AnswerTexts.{answer_text, done_line, of_kernel_fault}
use Rattle.runtime.specs.Answered.{AnsweredWhere}
use Rattle.runtime.specs.RuntimeState.{RuntimeState, Told}
use Rattle.runtime.specs.ScriptLaws.{lines_are_calls}
use Rattle.runtime.specs.ScriptToldLemmas.{lines_are_told}
use Rattle.strangers.specs.GuardState.{GuardState}
use Rattle.strangers.specs.Guarded.{AnswersAway, Forgets, Guards, IsPlanning, away, back, can_leave, held, knows, withheld}
use Rattle.strangers.specs.Within.{Exchange, goes, comes, around, stands_for, line_stands_for, lines_within, IsWithin, EachIsWithin, LinesAreWithin, ScriptsAreWithin}
use Rattle.strangers.proofs.AwayLemmas.{all_below, away_in, away_none, away_out, back_in, back_none, back_out, below, is_present, may_leave, of_leaving}
use Rattle.strangers.proofs.StaysLemmas.{may_come}

-- lines are answered, each by its text
abbrev pub IsRun : {S : Type 0} → (S → Asked → List ℕ → S → Type 0) → S → List Exchange → S → Type 0
IsRun Answers old [] new = new ≡ old
IsRun Answers old (x ∷ later) new = (mid : _) × AnswersLine Answers old (line_kept x.0) x.1 mid × IsRun Answers mid later new

module _ {S : Type 0} (Answers : S → Asked → List ℕ → S → Type 0) where
  run_one : (old new : S) (x : Exchange) → AnswersLine Answers old (line_kept x.0) x.1 new → IsRun Answers old (x ∷ []) new
  run_one old new x answers = (new, answers, refl)

  run_then : (first later : List Exchange) (old mid new : S) → IsRun Answers old first mid → IsRun Answers mid later new → IsRun Answers old (first ++ later) new
  run_then [] later old mid new same run = subst (λ (s : S). IsRun Answers s later new) same run
  run_then (x ∷ first) later old mid new (next, answers, rest) run = (next, answers, run_then first later next mid new rest run)

  -- so they print these texts, one after another
  as_printed : (exchanges : List Exchange) (old new : S) → IsRun Answers old exchanges new → Runs Answers old (map (λ (x : Exchange). x.0) exchanges) (flat_map (λ (x : Exchange). x.1) exchanges) new
  as_printed [] old new same = (refl, same)
  as_printed (x ∷ later) old new (mid, answers, rest) = (mid, x.1, flat_map (λ (y : Exchange). y.1) later, answers, as_printed later mid new rest, refl)

-- the members of a set below one more number
members_more : (w : Ids) (n : ℕ) → filter (set.contains w) (range_with_len 0 (n + 1)) ≡ filter (set.contains w) (range_with_len 0 n) ++ cond (set.contains w n) (n ∷ []) []
members_more w n = simp map-id at (filter_of_map_range_with_len_more (set.contains w) (λ k. k) 0 n n (omega arith))

cpus_are : cpus ≡ range_with_len 0 CPU_LIMIT
unfolding cpus
cpus_are = refl

all_cpus : CPU_LIMIT ≤ CPU_LIMIT
all_cpus = lit≤ tt

module _ (read : CpuLinesAreRead) (keep : RunsKeep) (sees : Told → List ℕ → Option (List ℕ) → Type 0) where
  abbrev pub RunsWithin : RuntimeState → List Exchange → RuntimeState → Type 0
  RunsWithin = IsRun (AnsweredWhere sees)

  -- a line of its own that asks for a command
  run_command : (old new : RuntimeState) (line : List ℕ) (command : Asked) (text : List ℕ) → IsRead line (asks command) → AnsweredWhere sees old command text new
      → RunsWithin old ((line, text) ∷ []) new
  run_command old new line command text (kept, asked) answers =
      run_one (AnsweredWhere sees) old new (line, text)
      (subst (λ (o : Option (List ℕ)). AnswersLine (AnsweredWhere sees) old o text new) (sym kept)
      (subst (λ (w : Wanted). AnswersRequest (AnsweredWhere sees) old w text new) (sym asked) answers))

  -- what a node is that lines were answered of
  pub node_then : (old : RuntimeState) (exchanges : List Exchange) (new : RuntimeState) → IsNode old.node → RunsWithin old exchanges new → IsNode new.node
  node_then old exchanges new node run =
      let calls =
      lines_are_calls sees old new (map (λ (x : Exchange). x.0) exchanges) (flat_map (λ (x : Exchange). x.1) exchanges) (as_printed (AnsweredWhere sees) exchanges old new run) in
      keep old.node calls.events new.node node calls.run

  module _ (s : RuntimeState) (w : Ids) where
    -- these CPUs go offline by lines, one after another
    module _ (may : (q : ℕ) → set.contains w q ≡ true → offline_refusal s.node.kernel q ≡ None) where
      away_line : (n : ℕ) → n < CPU_LIMIT → set.contains w n ≡ true → RunsWithin (away s (below w n)) (goes n ∷ []) (away s (below w (n + 1)))
      away_line n low inside =
          run_command (away s (below w n)) (away s (below w (n + 1))) (offline_line n) (ask.offline n) (answer_text done_line of_kernel_fault (Ok tt)) (read.offline n (omega (arith, low)))
          (subst (λ (x : RuntimeState). AnsweredWhere sees (away s (below w n)) (ask.offline n) (answer_text done_line of_kernel_fault (Ok tt)) x) (away_in s w n inside)
          ((Ok tt, (may n inside, refl), refl, refl), refl))

      away_next : (n : ℕ) → n < CPU_LIMIT → RunsWithin s (map goes (filter (set.contains w) (range_with_len 0 n))) (away s (below w n)) → (b : Bool) → set.contains w n ≡ b
          → RunsWithin s (map goes (filter (set.contains w) (range_with_len 0 n) ++ cond b (n ∷ []) [])) (away s (below w (n + 1)))
      away_next n low so_far true inside =
          subst (λ (xs : List Exchange). RunsWithin s xs (away s (below w (n + 1)))) (sym (map-append goes (filter (set.contains w) (range_with_len 0 n)) (n ∷ [])))
          (run_then (AnsweredWhere sees) (map goes (filter (set.contains w) (range_with_len 0 n))) (goes n ∷ []) s (away s (below w n)) (away s (below w (n + 1))) so_far (away_line n low inside))
      away_next n low so_far false out =
          subst (λ (xs : List ℕ). RunsWithin s (map goes xs) (away s (below w (n + 1)))) (sym (append-nil (filter (set.contains w) (range_with_len 0 n))))
          (subst (λ (x : RuntimeState). RunsWithin s (map goes (filter (set.contains w) (range_with_len 0 n))) x) (away_out s w n out) so_far)

      away_below : (n : ℕ) → n ≤ CPU_LIMIT → RunsWithin s (map goes (filter (set.contains w) (range_with_len 0 n))) (away s (below w n))
      away_below zero low = sym (away_none s w)
      away_below (suc n) low =
          let more : RunsWithin s (map goes (filter (set.contains w) (range_with_len 0 (n + 1)))) (away s (below w (n + 1))) =
          subst (λ (xs : List ℕ). RunsWithin s (map goes xs) (away s (below w (n + 1)))) (sym (members_more w n))
          (away_next n (omega (arith, low)) (away_below n (omega (arith, low))) (set.contains w n) refl) in
          subst (λ (m : ℕ). RunsWithin s (map goes (filter (set.contains w) (range_with_len 0 m))) (away s (below w m))) (add-one n) more

      away_up_to : (limit : ℕ) (numbers : List ℕ) → numbers ≡ range_with_len 0 limit → limit ≤ CPU_LIMIT → below w limit ≡ w
          → RunsWithin s (map goes (filter (set.contains w) numbers)) (away s w)
      away_up_to limit numbers are low all =
          subst (λ (xs : List ℕ). RunsWithin s (map goes (filter (set.contains w) xs)) (away s w)) (sym are)
          (subst (λ (x : Ids). RunsWithin s (map goes (filter (set.contains w) (range_with_len 0 limit))) (away s x)) all (away_below limit low))

      goes_away : InRange w → RunsWithin s (map goes (members w)) (away s w)
      goes_away range = away_up_to CPU_LIMIT cpus cpus_are all_cpus (all_below w range)

    -- and they come online by lines
    module _ (may : (q : ℕ) → set.contains w q ≡ true → online_refusal s.node.kernel q ≡ None) where
      back_line : (n : ℕ) → n < CPU_LIMIT → set.contains w n ≡ true → RunsWithin (back s (below w n)) (comes n ∷ []) (back s (below w (n + 1)))
      back_line n low inside =
          run_command (back s (below w n)) (back s (below w (n + 1))) (online_line n) (ask.online n) (answer_text done_line of_kernel_fault (Ok tt)) (read.online n (omega (arith, low)))
          (subst (λ (x : RuntimeState). AnsweredWhere sees (back s (below w n)) (ask.online n) (answer_text done_line of_kernel_fault (Ok tt)) x) (back_in s w n inside)
          ((Ok tt, (may n inside, refl), refl, refl), refl))

      back_next : (n : ℕ) → n < CPU_LIMIT → RunsWithin s (map comes (filter (set.contains w) (range_with_len 0 n))) (back s (below w n)) → (b : Bool) → set.contains w n ≡ b
          → RunsWithin s (map comes (filter (set.contains w) (range_with_len 0 n) ++ cond b (n ∷ []) [])) (back s (below w (n + 1)))
      back_next n low so_far true inside =
          subst (λ (xs : List Exchange). RunsWithin s xs (back s (below w (n + 1)))) (sym (map-append comes (filter (set.contains w) (range_with_len 0 n)) (n ∷ [])))
          (run_then (AnsweredWhere sees) (map comes (filter (set.contains w) (range_with_len 0 n))) (comes n ∷ []) s (back s (below w n)) (back s (below w (n + 1))) so_far (back_line n low inside))
      back_next n low so_far false out =
          subst (λ (xs : List ℕ). RunsWithin s (map comes xs) (back s (below w (n + 1)))) (sym (append-nil (filter (set.contains w) (range_with_len 0 n))))
          (subst (λ (x : RuntimeState). RunsWithin s (map comes (filter (set.contains w) (range_with_len 0 n))) x) (back_out s w n out) so_far)

      back_below : (n : ℕ) → n ≤ CPU_LIMIT → RunsWithin s (map comes (filter (set.contains w) (range_with_len 0 n))) (back s (below w n))
      back_below zero low = sym (back_none s w)
      back_below (suc n) low =
          let more : RunsWithin s (map comes (filter (set.contains w) (range_with_len 0 (n + 1)))) (back s (below w (n + 1))) =
          subst (λ (xs : List ℕ). RunsWithin s (map comes xs) (back s (below w (n + 1)))) (sym (members_more w n))
          (back_next n (omega (arith, low)) (back_below n (omega (arith, low))) (set.contains w n) refl) in
          subst (λ (m : ℕ). RunsWithin s (map comes (filter (set.contains w) (range_with_len 0 m))) (back s (below w m))) (add-one n) more

      back_up_to : (limit : ℕ) (numbers : List ℕ) → numbers ≡ range_with_len 0 limit → limit ≤ CPU_LIMIT → below w limit ≡ w
          → RunsWithin s (map comes (filter (set.contains w) numbers)) (back s w)
      back_up_to limit numbers are low all =
          subst (λ (xs : List ℕ). RunsWithin s (map comes (filter (set.contains w) xs)) (back s w)) (sym are)
          (subst (λ (x : Ids). RunsWithin s (map comes (filter (set.contains w) (range_with_len 0 limit))) (back s x)) all (back_below limit low))

      comes_back : InRange w → RunsWithin s (map comes (members w)) (back s w)
      comes_back range = back_up_to CPU_LIMIT cpus cpus_are all_cpus (all_below w range)

  -- what can leave is below the limit, as all present CPUs are
  in_range : (h : Ids) (n : NodeState) → IsNode n → InRange (can_leave h n.kernel)
  in_range h n node q m =
      node.layout.in_range q (subst (λ (x : Ids). set.contains x q ≡ true) node.machine.present (is_present n node q (of_leaving h n.kernel q m).1))

  -- so a runtime whose CPUs are away is one that such lines were answered of
  pub node_away : (old : RuntimeState) (h : Ids) → IsNode old.node → IsNode (away old (can_leave h old.node.kernel)).node
  node_away old h node =
      node_then old (map goes (members (can_leave h old.node.kernel))) (away old (can_leave h old.node.kernel)) node
      (goes_away old (can_leave h old.node.kernel) (may_leave h old.node node) (in_range h old.node node))

  module _ (line : List ℕ) where
    -- what answers what is wanted answers the line
    abbrev pub IsOfLine : Wanted → Type 0
    IsOfLine wanted = (old : RuntimeState) (text : List ℕ) (new : RuntimeState) → AnswersRequest (AnsweredWhere sees) old wanted text new → RunsWithin old ((line, text) ∷ []) new

    -- a line that is answered while CPUs are away
    is_around : (old : GuardState) (command : Asked) (text : List ℕ) (new : GuardState) → IsNode old.runtime.node → IsPlanning command → IsOfLine (asks command)
        → AnswersAway sees old command text new → RunsWithin old.runtime (around (withheld old) (line, text)) new.runtime
    is_around old command text new node planning of_line (last, answered, is) =
        let w : Ids = withheld old in
        let first : RuntimeState = away old.runtime w in
        let range : InRange w = in_range (held old.strangers) old.runtime.node node in
        let go : RunsWithin old.runtime (map goes (members w)) first = goes_away old.runtime w (may_leave (held old.strangers) old.runtime.node node) range in
        let here : RunsWithin first ((line, text) ∷ []) last = of_line first text last answered in
        let end : IsNode last.node = node_then first ((line, text) ∷ []) last (node_then old.runtime (map goes (members w)) first node go) here in
        let come : RunsWithin last (map comes (members w)) (back last w) =
        comes_back last w (may_come sees (held old.strangers) command planning old.runtime text last node end answered) range in
        subst (λ (g : GuardState). RunsWithin old.runtime (around w (line, text)) g.runtime) (sym is)
        (run_then (AnsweredWhere sees) (map goes (members w)) ((line, text) ∷ map comes (members w)) old.runtime first (back last w) go
        (run_then (AnsweredWhere sees) ((line, text) ∷ []) (map comes (members w)) first last (back last w) here come))

    by_forget : (b : Bool) (old : GuardState) (id text : List ℕ) (new : GuardState) → IsOfLine (asks (ask.forget id)) → Forgets sees b old id text new
        → RunsWithin old.runtime (if b then [] else (line, text) ∷ []) new.runtime
    by_forget true old id text new of_line (said, is) = ap (λ (g : GuardState). g.runtime) is
    by_forget false old id text new of_line (answers, same) = of_line old.runtime text new.runtime answers

    by_wanted : (old : GuardState) (wanted : Wanted) (text : List ℕ) (new : GuardState) → IsNode old.runtime.node → IsOfLine wanted → AnswersRequest (Guards sees) old wanted text new
        → RunsWithin old.runtime (stands_for old (line, text) wanted) new.runtime
    by_wanted old nothing text new node of_line (said, same) = of_line old.runtime text new.runtime (said, ap (λ (g : GuardState). g.runtime) same)
    by_wanted old bad text new node of_line (said, same) = of_line old.runtime text new.runtime (said, ap (λ (g : GuardState). g.runtime) same)
    by_wanted old (asks (ask.rebalance direct)) text new node of_line answered = is_around old (ask.rebalance direct) text new node tt of_line answered
    by_wanted old (asks (ask.begin direct)) text new node of_line answered = is_around old (ask.begin direct) text new node tt of_line answered
    by_wanted old (asks ask.step) text new node of_line answered = is_around old ask.step text new node tt of_line answered
    by_wanted old (asks (ask.forget id)) text new node of_line forgets = by_forget (knows old.strangers id) old id text new of_line forgets
    by_wanted old (asks (ask.create id bundle)) text new node of_line (answers, left) = of_line old.runtime text new.runtime answers
    by_wanted old (asks (ask.adopt id bundle list)) text new node of_line (answers, left) = of_line old.runtime text new.runtime answers
    by_wanted old (asks (ask.update id bundle)) text new node of_line (answers, same) = of_line old.runtime text new.runtime answers
    by_wanted old (asks (ask.start id)) text new node of_line (answers, same) = of_line old.runtime text new.runtime answers
    by_wanted old (asks (ask.kill id signal)) text new node of_line (answers, same) = of_line old.runtime text new.runtime answers
    by_wanted old (asks (ask.delete id)) text new node of_line (answers, same) = of_line old.runtime text new.runtime answers
    by_wanted old (asks (ask.state id)) text new node of_line (answers, same) = of_line old.runtime text new.runtime answers
    by_wanted old (asks ask.list) text new node of_line (answers, same) = of_line old.runtime text new.runtime answers
    by_wanted old (asks (ask.sets id)) text new node of_line (answers, same) = of_line old.runtime text new.runtime answers
    by_wanted old (asks ask.phase) text new node of_line (answers, same) = of_line old.runtime text new.runtime answers
    by_wanted old (asks ask.certificate) text new node of_line (answers, same) = of_line old.runtime text new.runtime answers
    by_wanted old (asks (ask.fork pid)) text new node of_line (answers, same) = of_line old.runtime text new.runtime answers
    by_wanted old (asks (ask.exit pid)) text new node of_line (answers, same) = of_line old.runtime text new.runtime answers
    by_wanted old (asks (ask.offline cpu)) text new node of_line (answers, same) = of_line old.runtime text new.runtime answers
    by_wanted old (asks (ask.online cpu)) text new node of_line (answers, same) = of_line old.runtime text new.runtime answers

    by_kept : (kept : Option (List ℕ)) → line_kept line ≡ kept → (old : GuardState) (text : List ℕ) (new : GuardState) → IsNode old.runtime.node → AnswersLine (Guards sees) old kept text new
        → RunsWithin old.runtime (line_stands_for old (line, text) kept) new.runtime
    by_kept None is old text new node (said, same) =
        run_one (AnsweredWhere sees) old.runtime new.runtime (line, text)
        (subst (λ (o : Option (List ℕ)). AnswersLine (AnsweredWhere sees) old.runtime o text new.runtime) (sym is) (said, ap (λ (g : GuardState). g.runtime) same))
    by_kept (Some kept) is old text new node answers =
        by_wanted old (request_of (words_of kept)) text new node
        (λ s t u answered. run_one (AnsweredWhere sees) s u (line, t) (subst (λ (o : Option (List ℕ)). AnswersLine (AnsweredWhere sees) s o t u) (sym is) answered)) answers

  line_within : (line : List ℕ) (old : GuardState) (text : List ℕ) (new : GuardState) → IsNode old.runtime.node → AnswersLine (Guards sees) old (line_kept line) text new
      → RunsWithin old.runtime (line_stands_for old (line, text) (line_kept line)) new.runtime
  line_within line old text new node answers = by_kept line (line_kept line) refl old text new node answers

  -- what is so within makes these calls
  told_within : (old new : GuardState) (exchanges : List Exchange) → RunsWithin old.runtime exchanges new.runtime → IsWithin sees old exchanges new
  told_within old new exchanges run =
      let printed = as_printed (AnsweredWhere sees) exchanges old.runtime new.runtime run in
      record {
        run = printed;
        told = lines_are_told sees old.runtime (map (λ (x : Exchange). x.0) exchanges) (flat_map (λ (x : Exchange). x.1) exchanges) new.runtime printed;
      }

  -- lines all together, and each of them
  all_within : (old new : GuardState) (lines : List (List ℕ)) (text : List ℕ) → IsNode old.runtime.node → (run : Runs (Guards sees) old lines text new)
      → RunsWithin old.runtime (lines_within sees old lines text new run) new.runtime × EachIsWithin sees old lines text new run
  all_within old new [] text node (said, same) = (ap (λ (g : GuardState). g.runtime) same, tt)
  all_within old new (line ∷ lines) text node (mid, first, more, answers, rest, is) =
      let these : List Exchange = line_stands_for old (line, first) (line_kept line) in
      let here : RunsWithin old.runtime these mid.runtime = line_within line old first mid node answers in
      let later = all_within mid new lines more (node_then old.runtime these mid.runtime node here) rest in (
        run_then (AnsweredWhere sees) these (lines_within sees mid lines more new rest) old.runtime mid.runtime new.runtime here later.0,
        (told_within old mid these here, later.1),
      )

  pub lines_are_within : LinesAreWithin sees
  lines_are_within old new lines text node run =
      let all = all_within old new lines text node run in (told_within old new (lines_within sees old lines text new run) all.0, all.1)

  pub scripts_are_within : ScriptsAreWithin sees
  scripts_are_within most read_old read_new out out' old (Ok done) new node e = lines_are_within old new (lines_of e.input) e.text node e.run
  scripts_are_within most read_old read_new out out' old (Err (Read kind)) new node (reads, few, e) = lines_are_within old new e.lines e.text node e.run
  scripts_are_within most read_old read_new out out' old (Err TooManyReads) new node e = lines_are_within old new e.lines e.text node e.run
  scripts_are_within most read_old read_new out out' old (Err Write) new node e =
      let before = all_within old e.mid e.before e.text node e.run in
      let these : List Exchange = lines_within sees old e.before e.text e.mid e.run in
      let last : List Exchange = line_stands_for e.mid (e.line, e.answer) (line_kept e.line) in
      let here : RunsWithin e.mid.runtime last new.runtime =
      line_within e.line e.mid e.answer new (node_then old.runtime these e.mid.runtime node before.0) e.answered in (
        told_within old new (these ++ last) (run_then (AnsweredWhere sees) these last old.runtime e.mid.runtime new.runtime before.0 here),
        (before.1, told_within e.mid new last here),
      )
