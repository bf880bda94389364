-- What is visible is what the last writer has.
use Rattle.std.proofs.Common.{◌≡◌, ◌↔◌, ◌⊎◌, ◌-◌, ◌<◌, ◌≤◌, ℕ, suc, Bool, true, false, List, [], ◌∷◌, ◌++◌, length, take, drop, get_or, Option, Some, refl, sym, ap, subst, ◌∙◌, inl, inr, arith}
use Rattle.std.specs.Prelude.{if◌then◌else◌}
use Rattle.std.specs.List.{fold}
use Rattle.std.proofs.lemmas.Bool.{cond-true, cond-false}
use Rattle.std.proofs.lemmas.List.Elements.{All-cons, All-head, All-nil, All-tail}
use Rattle.std.proofs.Math.Seq.{split_at}
use Rattle.bl_program.specs.Steps.{Registers}
use Rattle.bl_rob.specs.LastWriters.{NoneWrites, Sees, is_target, target_of, unwritten, value_of, writes, written}
use Rattle.bl_rob.specs.Machines.{behind, visible}
use Rattle.bl_rob.specs.declared.entry.Entry.{Entry}
use Rattle.bl_rob.specs.declared.entry.Register.{Register}
use Rattle.bl_rob.specs.declared.entry.Work.{Work}
use Rattle.bl_rob.specs.declared.entry.Work.TheVariants.{Nop}

-- the last of entries that writes a register
record LastWriter (entries : List Entry) (x : Register) : Type 0 where
  before : List Entry
  writer : Entry
  behind : List Entry
  parts : entries ≡ before ++ writer ∷ behind
  here : writes writer x ≡ true
  none : NoneWrites behind x

module _ (x : Register) where
  behind_is : (found : Option ℕ) (work : Work) → behind x found work ≡ (if is_target (target_of work) x then value_of work else found)
  behind_is found Nop = refl
  behind_is found _ = refl

  behind_writer : (found : Option ℕ) (work : Work) → is_target (target_of work) x ≡ true → behind x found work ≡ value_of work
  behind_writer found work e = behind_is found work ∙ cond-true (is_target (target_of work) x) (value_of work) found e

  behind_other : (found : Option ℕ) (work : Work) → is_target (target_of work) x ≡ false → behind x found work ≡ found
  behind_other found work e = behind_is found work ∙ cond-false (is_target (target_of work) x) (value_of work) found e

  -- what is visible behind entries, from what was before them
  abbrev from : Option ℕ → List Entry → Option ℕ
  from found entries = fold (λ found entry. behind x found entry.work) found entries

  abbrev Other : Entry → Type 0
  Other entry = writes entry x ≡ false

  behind_others : (entries : List Entry) (found : Option ℕ) → NoneWrites entries x → from found entries ≡ found
  behind_others [] found none = refl
  behind_others (entry ∷ entries) found none =
      behind_others entries (behind x found entry.work) (All-tail Other entry entries none)
      ∙ behind_other found entry.work (All-head Other entry entries none)

  behind_last : (before : List Entry) (writer : Entry) (later : List Entry) (found : Option ℕ) → writes writer x ≡ true → NoneWrites later x
      → from found (before ++ writer ∷ later) ≡ value_of writer.work
  behind_last [] writer later found here none = behind_others later (behind x found writer.work) none ∙ behind_writer found writer.work here
  behind_last (entry ∷ before) writer later found here none = behind_last before writer later (behind x found entry.work) here none

  last_writer : (entries : List Entry) → NoneWrites entries x ⊎ LastWriter entries x
  last_writer [] = inl (All-nil Other)
  last_writer (entry ∷ entries) = of_rest (last_writer entries)
    where
      of_entry : NoneWrites entries x → (b : Bool) → writes entry x ≡ b → NoneWrites (entry ∷ entries) x ⊎ LastWriter (entry ∷ entries) x
      of_entry none true is = inr (record { before = []; writer = entry; behind = entries; parts = refl; here = is; none = none })
      of_entry none false is = inl (All-cons Other entry entries is none)

      of_rest : NoneWrites entries x ⊎ LastWriter entries x → NoneWrites (entry ∷ entries) x ⊎ LastWriter (entry ∷ entries) x
      of_rest (inl none) = of_entry none (writes entry x) refl
      of_rest (inr last) = inr (record {
        before = entry ∷ last.before;
        writer = last.writer;
        behind = last.behind;
        parts = ap (λ es. entry ∷ es) last.parts;
        here = last.here;
        none = last.none;
      })

  module _ (registers : Registers) (entries : List Entry) where
    sees : NoneWrites entries x ⊎ LastWriter entries x → Sees registers entries x (visible registers entries x)
    sees (inl none) = subst (Sees registers entries x) (sym (behind_others entries (Some (registers x.depth x.var)) none)) (unwritten none)
    sees (inr last) =
        subst (Sees registers entries x) (sym (ap (from (Some (registers x.depth x.var))) last.parts ∙ behind_last last.before last.writer last.behind (Some (registers x.depth x.var)) last.here last.none))
        (written last.before last.writer last.behind last.parts last.here last.none)

    seen : (answer : Option ℕ) → Sees registers entries x answer → visible registers entries x ≡ answer
    seen _ (written before writer later parts here none) =
        ap (from (Some (registers x.depth x.var))) parts ∙ behind_last before writer later (Some (registers x.depth x.var)) here none
    seen _ (unwritten none) = behind_others entries (Some (registers x.depth x.var)) none

pub sees_last : (registers : Registers) (entries : List Entry) (x : Register) (answer : Option ℕ) → visible registers entries x ≡ answer ↔ Sees registers entries x answer
sees_last registers entries x answer = (
  λ is. subst (Sees registers entries x) is (sees x registers entries (last_writer x entries)),
  seen x registers entries answer,
)

-- ---- found from the last entry on

-- none of the entries from a place on writes a register
pub record Unwritten (entries : List Entry) (x : Register) (left : ℕ) : Type 0 where
  pub within : left ≤ length entries
  pub none : NoneWrites (drop left entries) x

module _ (entries : List Entry) (x : Register) where
  module _ (left : ℕ) (entry : Entry) (u : Unwritten entries x left) (some : 0 < left) (is : entry ≡ get_or entries (left - 1) entry) where
    next : suc (left - 1) ≡ left
    next = omega (arith, some)

    inside : left - 1 < length entries
    inside = omega (arith, some, u.within)

    cut : entries ≡ take (left - 1) entries ++ entry ∷ drop left entries
    cut = split_at entries (left - 1) entry inside ∙ (λ i. take (left - 1) entries ++ sym is i ∷ drop (next i) entries)

    pub written_here : (registers : Registers) → writes entry x ≡ true → value_of entry.work ≡ visible registers entries x
    written_here registers here = sym (seen x registers entries (value_of entry.work) (written (take (left - 1) entries) entry (drop left entries) cut here u.none))

  pub unwritten_whole : (registers : Registers) (left : ℕ) → left ≡ 0 → Unwritten entries x left → Some (registers x.depth x.var) ≡ visible registers entries x
  unwritten_whole registers left none u =
      sym (seen x registers entries (Some (registers x.depth x.var)) (unwritten (subst (λ k. NoneWrites (drop k entries) x) none u.none)))
