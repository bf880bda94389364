-- No directive lets the buffer grow past its room.
use Rattle.std.proofs.Common.{◌≡◌, ℕ, zero, suc, ◌+◌, ◌<◌, ◌≤◌, Bool, true, false, List, [], ◌∷◌, ◌++◌, length, take, drop, Option, Some, None, refl, sym, ap, subst, arith}
use Rattle.std.specs.Prelude.{nat_lt, slice_get, Result, Ok, Err}
use Rattle.std.specs.Option.{ok_or}
use Rattle.std.proofs.lemmas.Bool.{ltb-true}
use Rattle.std.proofs.lemmas.List.{length-append}
use Rattle.bl_program.specs.declared.definitions.ProgramParts.{ProgramParts as Program}
use Rattle.bl_rob.specs.CallResults.{ComesBy, Steps, Executes}
use Rattle.bl_rob.specs.Machines.{State, Fetched, Straight, Branch, Nowhere, before, fetch, guess, predict, act, rolled_back, acted, exec_entry, retire_work, retire, has_room, directive_step}
use Rattle.bl_rob.specs.declared.directive.Directive.{Directive}
use Rattle.bl_rob.specs.declared.directive.Directive.TheVariants.{Fetch, Predict, Exec, Retire}
use Rattle.bl_rob.specs.declared.directive.Observation.{Observation}
use Rattle.bl_rob.specs.declared.directive.StepError.{StepError}
use Rattle.bl_rob.specs.declared.directive.StepError.TheVariants.{NotEnabled, Memory}
use Rattle.bl_rob.specs.declared.entry.Act.{Act}
use Rattle.bl_rob.specs.declared.entry.Act.TheVariants.{Idle, Becomes, RollsBack}
use Rattle.bl_rob.specs.declared.entry.Entry.{Entry}
use Rattle.bl_rob.specs.declared.entry.Source.{Source}
use Rattle.bl_rob.specs.declared.entry.Work.{Work}
use Rattle.bl_rob.specs.declared.entry.Work.TheVariants.{Nop, Done, Ready, Guard, Fail}
use Rattle.bl_rob.proofs.BufferInvariant.{Holds}

module _ (most : ℕ) where
  abbrev pub Fits : State → Type 0
  Fits s = length s.buffer ≤ most

  one_more : (entries : List Entry) (entry : Entry) → nat_lt (length entries) most ≡ true → length (entries ++ entry ∷ []) ≤ most
  one_more entries entry h =
      let lt : length entries < most = ltb-true (length entries) most h in
      let all : length (entries ++ entry ∷ []) ≡ length entries + 1 = length-append entries (entry ∷ []) in
      omega arith

  guess_fits : (predicted : Bool) (s : State) → nat_lt (length s.buffer) most ≡ true → (cond : Source) (one other : ℕ) → Fits (guess predicted s cond one other)
  guess_fits true s h cond one other = one_more s.buffer _ h
  guess_fits false s h cond one other = one_more s.buffer _ h

  fetch_fits : (s : State) (room : Bool) → nat_lt (length s.buffer) most ≡ room → (what : Fetched) → Holds Fits (fetch room s what)
  fetch_fits s true h (Straight work front) = one_more s.buffer _ h
  fetch_fits s true h (Branch cond one other) = tt
  fetch_fits s true h Nowhere = tt
  fetch_fits s false h what = tt

  predict_fits : (s : State) (room predicted : Bool) → nat_lt (length s.buffer) most ≡ room → (what : Fetched) → Holds Fits (predict room predicted s what)
  predict_fits s true predicted h (Straight work front) = tt
  predict_fits s true predicted h (Branch cond one other) = guess_fits predicted s h cond one other
  predict_fits s true predicted h Nowhere = tt
  predict_fits s false predicted h what = tt

  pub within : (entries : List Entry) (n : ℕ) (entry : Entry) → slice_get entries n ≡ Some entry → n < length entries
  within [] n entry h = cc
  within (x ∷ entries) zero entry h = omega arith
  within (x ∷ entries) (suc n) entry h = let lt = within entries n entry h in omega arith

  replaced : (entries : List Entry) (n : ℕ) (entry : Entry) → n < length entries → length (take n entries ++ entry ∷ drop (suc n) entries) ≡ length entries
  replaced [] n entry lt = absurd (omega arith)
  replaced (x ∷ entries) zero entry lt = refl
  replaced (x ∷ entries) (suc n) entry lt = ap suc (replaced entries n entry (omega arith))

  cut_off : (entries : List Entry) (n : ℕ) (entry : Entry) → n < length entries → length (take n entries ++ entry ∷ []) ≤ length entries
  cut_off [] n entry lt = absurd (omega arith)
  cut_off (x ∷ entries) zero entry lt = omega arith
  cut_off (x ∷ entries) (suc n) entry lt = let le = cut_off entries n entry (omega arith) in omega arith

  rolled_back_fits : (s : State) (n position : ℕ) (work : Work) → n < length s.buffer → Fits s → Fits (rolled_back n position work s)
  rolled_back_fits s n position (Guard cond predicted other chain) lt fits =
      let le = cut_off s.buffer n (record { position = position; work = Nop }) lt in omega arith
  rolled_back_fits s n position _ lt fits = fits

  pub acted_fits : (s : State) (n : ℕ) (entry : Entry) (a : Act) → n < length s.buffer → Fits s → Holds Fits (acted n s entry a)
  acted_fits s n entry Idle lt fits = tt
  acted_fits s n entry (Becomes work observation) lt fits =
      let same = replaced s.buffer n (record { position = entry.position; work = work }) lt in omega arith
  acted_fits s n entry RollsBack lt fits = rolled_back_fits s n entry.position entry.work lt fits

  exec_fits : (program : Program) (s : State) (n : ℕ) (o : Option Entry) → slice_get s.buffer n ≡ o → Fits s → Holds Fits (exec_entry program n s o)
  exec_fits program s n None h fits = tt
  exec_fits program s n (Some entry) h fits =
      acted_fits s n entry (act program s.registers s.space (take n s.buffer) entry.work) (within s.buffer n entry h) fits

  retire_fits : (program : Program) (s : State) (entries : List Entry) → length entries ≤ most → Holds Fits (retire program s entries)
  retire_fits program s [] fits = tt
  retire_fits program s (entry ∷ entries) fits = by entry.work
    where
      less : length entries ≤ most
      less = omega (arith, fits)

      by : (work : Work) → Holds Fits (retire_work program s entries work)
      by Nop = less
      by (Done to value) = less
      by (Ready kind memory offset address value) = less
      by (Fail kind) = omega arith
      by _ = tt

  pub step_fits : (program : Program) (s : State) (d : Directive) → Fits s → Holds Fits (directive_step most program s d)
  step_fits program s Fetch fits = fetch_fits s (has_room most s) refl (before program s.front)
  step_fits program s (Predict predicted) fits = predict_fits s (has_room most s) predicted refl (before program s.front)
  step_fits program s (Exec n) fits = exec_fits program s n (slice_get s.buffer n) refl fits
  step_fits program s Retire fits = retire_fits program s s.buffer fits

  -- what a step leaves is within the room
  pub comes_fit : {O : Type 0} (step : Option (State × O)) (needs : Type 0) (old new : State) (result : Result O StepError) → Fits old → Holds Fits step
      → ComesBy step needs old result new → Fits new
  comes_fit step needs old new (Ok observation) fits holds h = subst (Holds Fits) h holds
  comes_fit step needs old new (Err NotEnabled) fits holds h = subst Fits (sym h.1) fits
  comes_fit step needs old new (Err Memory) fits holds h = subst Fits (sym h.1) fits

  -- what executing has come to, as a step
  pub executes : (program : Program) (old new : State) (n : ℕ) (result : Option Observation) (answer : Result Observation StepError) → Executes program n old result new
      → answer ≡ ok_or result NotEnabled → Steps most program (Exec n) old answer new
  executes program old new n None answer h e = subst (λ a. Steps most program (Exec n) old a new) (sym e) h
  executes program old new n (Some observation) answer h e = subst (λ a. Steps most program (Exec n) old a new) (sym e) h
