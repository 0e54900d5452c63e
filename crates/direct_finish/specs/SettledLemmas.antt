-- Each one rests, or waits for one that waits, where those do that were written since it was known last, and those that wait for them.
use Rattle.std.proofs.Common.{◌≡◌, ◌⊎◌, ℕ, ◌+◌, ◌<◌, ◌≤◌, length, get_or, Bool, true, false, List, refl, sym, ap, ◌∙◌, subst, arith, eqb-true, inl, inr}
use Rattle.std.proofs.lemmas.Bool.{false≢true, cases_eq, cases_lt}
use Rattle.std.specs.Prelude.{slice_index, ◌==◌}
use Rattle.kernel_model.specs.KernelState.{KernelState}
use Rattle.apply_plan.specs.Targets.{Targets}
use Rattle.apply_plan.specs.RingMarks.{IsPut}
use Rattle.apply_plan.specs.SetMemberLaws.{one_of_two}
use Rattle.direct_finish.specs.declared.since.Since.{Since}
use Rattle.direct_finish.specs.declared.standing.Standing.{Standing}
use Rattle.direct_finish.specs.declared.standing.Standing.TheVariants.{Roomy, Full, Waits, Beside, Rests, Guarded, Moved}
use Rattle.direct_finish.specs.Seen.{IsWaiting, LeadsOn, IsCalmAt, AreCalm, IsStanding, RestsIf, is_due, is_quiet, IsNobodys}
use Rattle.direct_finish.specs.Settled.{LeadsHere, LeadAll, IsNoted, AreSettled, IsSince, IsSameButCursors, NotesOne, NotesIf, BeforesUpto, AreBefores, IsDone, AreDone}

-- it neither waits nor gave way, or it waits for one that waits
abbrev LeadsEither : List ℕ → List Standing → ℕ → Standing → Type 0
LeadsEither nexts standings i s = (is_quiet s ≡ true) ⊎ (IsWaiting s × LeadsOn nexts standings i)

leads_either : (nexts : List ℕ) (standings : List Standing) (i : ℕ) (s : Standing) → LeadsHere nexts standings i s → LeadsEither nexts standings i s
leads_either nexts standings i Roomy lead = inr (tt, lead)
leads_either nexts standings i Full lead = inr (tt, lead)
leads_either nexts standings i Waits lead = inr (tt, lead)
leads_either nexts standings i Beside lead = inr (tt, lead)
leads_either nexts standings i Rests lead = inl refl
leads_either nexts standings i Guarded lead = inl refl
leads_either nexts standings i Moved lead = absurd lead

leads_quiet : (nexts : List ℕ) (standings : List Standing) (i : ℕ) (s : Standing) → is_quiet s ≡ true → LeadsHere nexts standings i s
leads_quiet nexts standings i Roomy quiet = absurd (false≢true quiet)
leads_quiet nexts standings i Full quiet = absurd (false≢true quiet)
leads_quiet nexts standings i Waits quiet = absurd (false≢true quiet)
leads_quiet nexts standings i Beside quiet = absurd (false≢true quiet)
leads_quiet nexts standings i Rests quiet = tt
leads_quiet nexts standings i Guarded quiet = tt
leads_quiet nexts standings i Moved quiet = absurd (false≢true quiet)

leads_waiting : (nexts : List ℕ) (standings : List Standing) (i : ℕ) (s : Standing) → IsWaiting s → LeadsOn nexts standings i → LeadsHere nexts standings i s
leads_waiting nexts standings i Roomy waits lead = lead
leads_waiting nexts standings i Full waits lead = lead
leads_waiting nexts standings i Waits waits lead = lead
leads_waiting nexts standings i Beside waits lead = lead
leads_waiting nexts standings i Rests waits lead = tt
leads_waiting nexts standings i Guarded waits lead = tt
leads_waiting nexts standings i Moved waits lead = absurd waits

calm_here : (h : Targets) (k : KernelState) (nexts : List ℕ) (standings : List Standing) (i : ℕ) (s : Standing) → LeadsHere nexts standings i s
    → IsCalmAt h k nexts standings i s
calm_here h k nexts standings i Roomy lead = lead
calm_here h k nexts standings i Full lead = lead
calm_here h k nexts standings i Waits lead = lead
calm_here h k nexts standings i Beside lead = inl lead
calm_here h k nexts standings i Rests lead = tt
calm_here h k nexts standings i Guarded lead = tt
calm_here h k nexts standings i Moved lead = absurd lead

pub lead_calm : (h : Targets) (k : KernelState) (nexts : List ℕ) (standings : List Standing) → LeadAll nexts standings → AreCalm h k nexts standings
lead_calm h k nexts standings lead i s within is = calm_here h k nexts standings i s (lead i s within is)

-- where all do, so they do whoever is noted
pub lead_settled : (nexts : List ℕ) (standings : List Standing) (c : Since) → LeadAll nexts standings → AreSettled nexts standings c
lead_settled nexts standings c lead all i s within is = inl (lead i s within is)

-- those that were noted are at rest, and nobody waits for them
pub done_leads : (nexts befores : List ℕ) (standings : List Standing) (c : Since) → length nexts ≡ length standings → AreBefores nexts befores → AreSettled nexts standings c
    → AreDone befores standings c → length befores ≡ length standings → LeadAll nexts standings
done_leads nexts befores standings c room before settled done same i s within is = elim (settled done.all i s within is) [
  | inl lead ↦ lead
  | inr rest ↦ elim rest [
    | inl noted ↦ leads_quiet nexts standings i s ((done.each i noted).quiet s is)
    | inr noted ↦
        let d : IsDone befores standings (slice_index nexts i) = done.each (slice_index nexts i) noted in
        let inside : slice_index nexts i < length standings = d.within in
        let few : slice_index befores (slice_index nexts i) ≤ length befores = d.left.few in
        one_of_two (before i (omega (arith, within, room)) (omega (arith, inside, same)))
        (λ its. leads_quiet nexts standings i s (d.left.quiet i s its is))
        (λ many. absurd (omega (arith, many, few)))
  ]
]

-- after one standing was written, of one that is noted
module _ (nexts : List ℕ) (old new : List Standing) (place : ℕ) (x : Standing) (put : IsStanding old new place x) (before after : Since) (notes : NotesOne before after place) where
  leads_still : (i : ℕ) → (slice_index nexts i ≡ place → ⊥) → LeadsOn nexts old i → LeadsOn nexts new i
  leads_still i other l =
      let inside : slice_index nexts i < length old = l.within in
      let room : length new ≡ length old = put.room in
      record { within = omega (arith, inside, room); s = l.s; is = l.is ∙ sym (put.others (slice_index nexts i) l.s other); waits = l.waits }

  pub settled_then : AreSettled nexts old before → AreSettled nexts new after
  settled_then settled all i s within is = elim (cases_eq i place) [
    | inl same ↦ inr (inl (subst (IsNoted after) (sym same) (notes.here all)))
    | inr differs ↦
        let room : length new ≡ length old = put.room in
        elim (settled (notes.all all) i s (omega (arith, within, room)) (is ∙ put.others i s differs)) [
          | inl lead ↦ elim (leads_either nexts old i s lead) [
            | inl quiet ↦ inl (leads_quiet nexts new i s quiet)
            | inr w ↦ elim (cases_eq (slice_index nexts i) place) [
              | inl there ↦ inr (inr (subst (IsNoted after) (sym there) (notes.here all)))
              | inr other ↦ inl (leads_waiting nexts new i s w.0 (leads_still i other w.1))
            ]
          ]
          | inr rest ↦ elim rest [
            | inl noted ↦ inr (inl (notes.others i noted))
            | inr noted ↦ inr (inr (notes.others (slice_index nexts i) noted))
          ]
        ]
  ]

  -- nobody is due who was not
  nobodys_then : ((aside : Bool) → is_due aside x ≡ false) → (aside : Bool) (upto : ℕ) → IsNobodys aside old upto → IsNobodys aside new upto
  nobodys_then off aside upto nobody j s less within is = elim (cases_eq j place) [
    | inl same ↦
        let its : s ≡ x = is ∙ ap (λ n. get_or new n s) same ∙ put.here s in
        ap (is_due aside) its ∙ off aside
    | inr differs ↦
        let room : length new ≡ length old = put.room in
        nobody j s less (omega (arith, within, room)) (is ∙ put.others j s differs)
  ]

  pub since_then : ((aside : Bool) → is_due aside x ≡ false) → IsSince nexts old before → IsSince nexts new after
  since_then off since = record {
    past = record {
      roomy = subst (IsNobodys true new) (sym notes.roomy) (nobodys_then off true before.roomy since.past.roomy);
      full = subst (IsNobodys false new) (sym notes.full) (nobodys_then off false before.full since.past.full);
    };
    settled = settled_then since.settled;
  }

-- before the first place it is nobody's turn
pub nobody_first : (aside : Bool) (standings : List Standing) → IsNobodys aside standings 0
nobody_first aside standings j s less within is = absurd (omega (arith, less))

-- nothing is known at first
pub since_nothing : (nexts : List ℕ) (standings : List Standing) (c : Since) → c.roomy ≡ 0 → c.full ≡ 0 → c.all ≡ false → IsSince nexts standings c
since_nothing nexts standings c roomy full all = record {
  past = record {
    roomy = subst (IsNobodys true standings) (sym roomy) (nobody_first true standings);
    full = subst (IsNobodys false standings) (sym full) (nobody_first false standings);
  };
  settled = λ on. absurd (false≢true (sym all ∙ on));
}

-- what is noted is the same where it is looked for whose turn it is elsewhere
pub settled_same : (nexts : List ℕ) (standings : List Standing) (old new : Since) → IsSameButCursors old new → AreSettled nexts standings old → AreSettled nexts standings new
settled_same nexts standings old new same settled all i s within is = elim (settled (sym same.all ∙ all) i s within is) [
  | inl lead ↦ inl lead
  | inr rest ↦ elim rest [
    | inl noted ↦ inr (inl (noted_same i noted))
    | inr noted ↦ inr (inr (noted_same (slice_index nexts i) noted))
  ]
] where
  noted_same : (q : ℕ) → IsNoted old q → IsNoted new q
  noted_same q (inl is) = inl (same.one ∙ is)
  noted_same q (inr is) = inr (same.two ∙ is)

-- the same, where one was written or none
pub since_if : (nexts : List ℕ) (old new : List Standing) (place : ℕ) (before after : Since) (took : Bool) → RestsIf old new place took → NotesIf before after place took
    → IsSince nexts old before → IsSince nexts new after
since_if nexts old new place before after true put notes since = since_then nexts old new place Rests put before after notes (λ aside. refl) since
since_if nexts old new place before after false same kept since =
    subst (λ (c : Since). IsSince nexts new c) (sym kept) (subst (λ (s : List Standing). IsSince nexts s before) (sym same) since)

-- the one at a place is noted where it waits
module _ (nexts old new : List ℕ) (place : ℕ) (room : length old ≡ length nexts) (upto : BeforesUpto nexts old place) where
  one_more : (behind : ℕ) → IsPut old new (slice_index nexts place) behind
      → ((i : ℕ) → i < place + 1 → slice_index nexts i ≡ slice_index nexts place → slice_index nexts i < length old → (behind ≡ i + 1) ⊎ (length old < behind))
      → BeforesUpto nexts new (place + 1)
  one_more behind put here i less inside =
      let same : length new ≡ length old = put.room in
      let within : slice_index nexts i < length old = omega (arith, inside, same) in
      elim (cases_eq (slice_index nexts i) (slice_index nexts place)) [
        | inl there ↦
            let its : slice_index new (slice_index nexts i) ≡ behind = ap (slice_index new) there ∙ put.here in
            one_of_two (here i less there within)
            (λ one. inl (its ∙ one))
            (λ many. inr (omega (arith, many, its, same)))
        | inr other ↦
            let kept : slice_index new (slice_index nexts i) ≡ slice_index old (slice_index nexts i) = put.others (slice_index nexts i) (differs (slice_index nexts i) (slice_index nexts place) other) in
            let before : i < place = elim (cases_eq i place) [
              | inl it ↦ absurd (other (ap (slice_index nexts) it))
              | inr not_it ↦ strictly i less not_it
            ] in
            one_of_two (upto i before within)
            (λ one. inl (kept ∙ one))
            (λ many. inr (omega (arith, many, kept, same)))
      ]
    where
      differs : (a b : ℕ) → (a ≡ b → ⊥) → (a == b) ≡ false
      differs a b off = by (a == b) refl where
        by : (t : Bool) → (a == b) ≡ t → (a == b) ≡ false
        by true on = absurd (off (eqb-true a b on))
        by false on = on

      strictly : (i : ℕ) → i < place + 1 → (i ≡ place → ⊥) → i < place
      strictly i less off = elim (cases_lt i place) [
        | inl before ↦ before
        | inr not_before ↦ absurd (off (omega (arith, less, not_before)))
      ]

  pub first_before : IsPut old new (slice_index nexts place) (place + 1) → slice_index old (slice_index nexts place) ≡ 0 → BeforesUpto nexts new (place + 1)
  first_before put none = one_more (place + 1) put (λ i less there within. elim (cases_eq i place) [
    | inl it ↦ inl (ap (λ n. n + 1) (sym it))
    | inr not_it ↦ elim (cases_lt i place) [
      | inl before ↦
          let zero_there : slice_index old (slice_index nexts i) ≡ 0 = ap (slice_index old) there ∙ none in
          one_of_two (upto i before within)
          (λ one. absurd (omega (arith, one, zero_there)))
          (λ many. absurd (omega (arith, many, zero_there)))
      | inr not_before ↦ absurd (not_it (omega (arith, less, not_before)))
    ]
  ])

  pub many_before : (behind : ℕ) → IsPut old new (slice_index nexts place) behind → length old < behind → BeforesUpto nexts new (place + 1)
  many_before behind put past = one_more behind put (λ i less there within. inr past)

  pub none_before : new ≡ old → length old ≤ slice_index nexts place → BeforesUpto nexts new (place + 1)
  none_before same past = subst (λ (s : List ℕ). BeforesUpto nexts s (place + 1)) (sym same) (λ i less inside. elim (cases_lt i place) [
    | inl before ↦ upto i before inside
    | inr not_before ↦
        let it : i ≡ place = omega (arith, less, not_before) in
        let there : slice_index nexts i ≡ slice_index nexts place = ap (slice_index nexts) it in
        absurd (omega (arith, inside, there, past))
  ])

-- where it is looked for whose turn it is stays
pub since_kept : (nexts : List ℕ) (standings : List Standing) (old new : Since) → new.roomy ≡ old.roomy → new.full ≡ old.full → IsSince nexts standings old
    → AreSettled nexts standings new → IsSince nexts standings new
since_kept nexts standings old new roomy full since settled = record {
  past = record {
    roomy = subst (IsNobodys true standings) (sym roomy) since.past.roomy;
    full = subst (IsNobodys false standings) (sym full) since.past.full;
  };
  settled = settled;
}
