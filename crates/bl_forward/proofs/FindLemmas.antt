-- What a load finds is what the last store that meets its range has.
use Rattle.std.proofs.Common.{◌≡◌, ◌↔◌, ◌⊎◌, ℕ, Bool, true, false, List, [], ◌∷◌, ◌++◌, Option, Some, None, refl, sym, ap, subst, ◌∙◌, inl, inr}
use Rattle.std.specs.Prelude.{◌&&◌, nat_eq, if◌then◌else◌}
use Rattle.std.proofs.lemmas.Bool.{eqb-true, eq-eqb, false≢true}
use Rattle.std.proofs.lemmas.List.Elements.{All-cons, All-head, All-nil, All-tail}
use Rattle.bl_base.proofs.BoolLemmas.{each_true}
use Rattle.bl_program.specs.declared.definitions.ProgramParts.{ProgramParts as Program}
use Rattle.bl_rob.specs.declared.entry.Entry.{Entry}
use Rattle.bl_rob.specs.declared.entry.Work.{Work}
use Rattle.bl_rob.specs.declared.entry.Work.TheVariants.{Nop}
use Rattle.bl_forward.specs.ForwardMachines.{found_from, found_in, meets, supplied, supplies}
use Rattle.bl_forward.specs.LastStores.{Finds, LastStore, NoneMeets, Waiting, blocked, does_meet, in_memory, stored, waiting}
use Rattle.bl_forward.specs.declared.find.Found.{Found}
use Rattle.bl_forward.specs.declared.find.Found.TheVariants.{Memory, Stored, Blocked}

module _ (program : Program) (from width : ℕ) where
  -- what is found behind an entry, by the store that it is
  abbrev supply : Option Waiting → Found → Found
  supply None found = found
  supply (Some store) found = supplies from width store.at store.count store.number found

  supplied_is : (work : Work) (found : Found) → supplied program from width work found ≡ supply (waiting program work) found
  supplied_is Nop found = refl
  supplied_is _ found = refl

  -- in a store that meets the range
  abbrev decided : Waiting → Bool → Found
  decided store same = if same then Stored store.number else Blocked

  abbrev has_range : Waiting → Bool
  has_range store = nat_eq store.at from && nat_eq store.count width

  other_supplies : (o : Option Waiting) (found : Found) → does_meet from width o ≡ false → supply o found ≡ found
  other_supplies None found e = refl
  other_supplies (Some store) found e = ap (λ b. if b then decided store (has_range store) else found) e

  store_supplies : (o : Option Waiting) (store : Waiting) (found : Found) → o ≡ Some store → meets store.at store.count from width ≡ true
      → supply o found ≡ decided store (has_range store)
  store_supplies o store found is e = ap (λ x. supply x found) is ∙ ap (λ b. if b then decided store (has_range store) else found) e

  abbrev Other : Entry → Type 0
  Other entry = does_meet from width (waiting program entry.work) ≡ false

  behind_others : (entries : List Entry) (found : Found) → NoneMeets program from width entries → found_from program from width entries found ≡ found
  behind_others [] found none = refl
  behind_others (entry ∷ entries) found none =
      behind_others entries (supplied program from width entry.work found) (All-tail Other entry entries none)
      ∙ supplied_is entry.work found ∙ other_supplies (waiting program entry.work) found (All-head Other entry entries none)

  behind_last : (before : List Entry) (entry : Entry) (later : List Entry) (store : Waiting) (found : Found) → waiting program entry.work ≡ Some store
      → meets store.at store.count from width ≡ true → NoneMeets program from width later
      → found_from program from width (before ++ entry ∷ later) found ≡ decided store (has_range store)
  behind_last [] entry later store found is here none =
      behind_others later (supplied program from width entry.work found) none
      ∙ supplied_is entry.work found ∙ store_supplies (waiting program entry.work) store found is here
  behind_last (first ∷ before) entry later store found is here none =
      behind_last before entry later store (supplied program from width first.work found) is here none

  by_last : (entries : List Entry) (store : Waiting) → LastStore program from width entries store → found_in program from width entries ≡ decided store (has_range store)
  by_last entries store last =
      ap (λ es. found_from program from width es Memory) last.parts ∙ behind_last last.before last.entry last.behind store Memory last.is last.here last.none

  -- ---- the last one

  abbrev Last : List Entry → Type 0
  Last entries = (store : Waiting) × LastStore program from width entries store

  last_store : (entries : List Entry) → NoneMeets program from width entries ⊎ Last entries
  last_store [] = inl (All-nil Other)
  last_store (entry ∷ entries) = of_rest (last_store entries)
    where
      of_entry : NoneMeets program from width entries → (o : Option Waiting) → waiting program entry.work ≡ o → (b : Bool) → does_meet from width o ≡ b
          → NoneMeets program from width (entry ∷ entries) ⊎ Last (entry ∷ entries)
      of_entry none None is b e = inl (All-cons Other entry entries (ap (does_meet from width) is) none)
      of_entry none (Some store) is true e =
          inr (store, record { before = []; entry = entry; behind = entries; parts = refl; is = is; here = e; none = none })
      of_entry none (Some store) is false e = inl (All-cons Other entry entries (ap (does_meet from width) is ∙ e) none)

      of_rest : NoneMeets program from width entries ⊎ Last entries → NoneMeets program from width (entry ∷ entries) ⊎ Last (entry ∷ entries)
      of_rest (inl none) = of_entry none (waiting program entry.work) refl (does_meet from width (waiting program entry.work)) refl
      of_rest (inr found) =
          let last = found.1 in
          inr (
            found.0,
            record {
              before = entry ∷ last.before;
              entry = last.entry;
              behind = last.behind;
              parts = ap (λ es. entry ∷ es) last.parts;
              is = last.is;
              here = last.here;
              none = last.none;
            },
          )

  same_range : (store : Waiting) → store.at ≡ from → store.count ≡ width → has_range store ≡ true
  same_range store at count =
      ap (λ b. b && nat_eq store.count width) (eq-eqb store.at from at) ∙ eq-eqb store.count width count

  other_range : (store : Waiting) → (b : Bool) → has_range store ≡ b → (store.at ≡ from → store.count ≡ width → ⊥) → has_range store ≡ false
  other_range store false e other = e
  other_range store true e other =
      let both = each_true (nat_eq store.at from) (nat_eq store.count width) e in
      absurd (other (eqb-true store.at from both.0) (eqb-true store.count width both.1))

  module _ (entries : List Entry) where
    decides : (store : Waiting) → LastStore program from width entries store → (b : Bool) → has_range store ≡ b → Finds program from width entries (decided store b)
    decides store last true e =
        let both = each_true (nat_eq store.at from) (nat_eq store.count width) e in
        stored store last (eqb-true store.at from both.0) (eqb-true store.count width both.1)
    decides store last false e = blocked store last (λ at count. false≢true (sym e ∙ same_range store at count))

    finds : NoneMeets program from width entries ⊎ Last entries → Finds program from width entries (found_in program from width entries)
    finds (inl none) = subst (Finds program from width entries) (sym (behind_others entries Memory none)) (in_memory none)
    finds (inr found) =
        subst (Finds program from width entries) (sym (by_last entries found.0 found.1)) (decides found.0 found.1 (has_range found.0) refl)

    found_so : (found : Found) → Finds program from width entries found → found_in program from width entries ≡ found
    found_so _ (in_memory none) = behind_others entries Memory none
    found_so _ (stored store last at count) = by_last entries store last ∙ ap (decided store) (same_range store at count)
    found_so _ (blocked store last other) = by_last entries store last ∙ ap (decided store) (other_range store (has_range store) refl other)

pub finds_last : (program : Program) (from width : ℕ) (entries : List Entry) (found : Found) → found_in program from width entries ≡ found ↔ Finds program from width entries found
finds_last program from width entries found = (
  λ is. subst (Finds program from width entries) is (finds program from width entries (last_store program from width entries)),
  found_so program from width entries found,
)
