-- Files that are fetched in order, and files that are kept in order.
use Rattle.std.proofs.Common.{◌≡◌, ℕ, ◌+◌, ◌<◌, ◌≤◌, List, [], ◌∷◌, ◌++◌, length, take, drop, get_or, map, Option, Some, refl, inl, ap, sym, ◌∙◌, subst, arith, drop-cons, add-one}
use Rattle.std.specs.Prelude.{Ok, Err, slice_get, Result, false, if◌then◌else◌}
use Rattle.std.specs.List.{All, AllByRecursion}
use Rattle.std.specs.Result.{is_ok, is_err}
use Rattle.std.proofs.lemmas.List.{get_or-map, length-map, map-append, take_all, take_more, take-append-drop}
use Rattle.std.proofs.lemmas.List.Elements.{All-from_recursion}
use Rattle.std.proofs.lemmas.Option.{slice_get-get_or}
use Rattle.bl_base.specs.Quantity.{limit_of}
use Rattle.bl_outside.specs.Shelf.{Files, KeepFaults, ReadFails, most_asked, with_file}
use Rattle.bl_outside.specs.declared.shelf.ShelfError.{ShelfError}
use Rattle.bl_outside.specs.declared.shelf.ShelfError.TheVariants as shelf
use Rattle.bl_job.specs.Ends.{Delivers, all_kept, no_memory_to_keep, not_kept}
use Rattle.bl_job.specs.Jobs.{AreRead, IsSmall, IsTooLong, Plan, Read}
use Rattle.bl_job.specs.Refusals.{limit}
use Rattle.bl_job.specs.Texts.{read_fault_text, write_fault_text, refusal_text}
use Rattle.bl_job.specs.WorkAnswers.{NotFetched, NotKept, failed, keep_in, no_memory_to_fetch, read_in, refused, content_in, contents_in}
use Rattle.bl_job.specs.Worlds.{Said, SaidIfRoom, SameShelf, Unchanged, World, with_files}
use Rattle.bl_job.specs.declared.content.Content.{Content}
use Rattle.bl_job.specs.declared.job.Keep.{Keep}
use Rattle.bl_job.specs.declared.job.Read.{Read as ReadAsked}
use Rattle.bl_job.specs.declared.status.Status.{Status}
use Rattle.bl_job.specs.declared.status.Status.TheVariants.{ReadFault, Refused}
use Rattle.bl_job.specs.declared.status.Reason.TheVariants as reason
use Rattle.bl_job.proofs.JobLemmas.{at_behind, read_behind}

-- worlds between which nothing changed are one
pub same_world : (old mid : World) → Unchanged old mid → mid ≡ old
same_world old mid u = λ i. record { files = u.files i; faults = u.faults i; sink = u.sink i }

-- ---- what is asked for

abbrev IsSmallAsked : ReadAsked → Type 0
IsSmallAsked read = limit_of read.quantity ≤ most_asked

small_asked : (reads : List ReadAsked) → AllByRecursion IsSmall (map read_in reads) → AllByRecursion IsSmallAsked reads
small_asked [] small = tt
small_asked (read ∷ reads) small = (small.0, small_asked reads small.1)

-- a shelf may be asked for the files of a job
pub small_reads : (reads : List ReadAsked) (these : List Read) → map read_in reads ≡ these → AllByRecursion IsSmall these → All IsSmallAsked reads
small_reads reads these same small = All-from_recursion IsSmallAsked reads (small_asked reads (subst (AllByRecursion IsSmall) (sym same) small))

-- ---- one file

module _ (read : Read) (old new : World) where
  -- a file that is too long
  pub long_refused : (status : Status) → IsTooLong old.files read → SameShelf old new → SaidIfRoom (refusal_text (limit read.quantity (limit_of read.quantity + 1))) (Refused reason.Limit) old.sink new.sink status
      → NotFetched (read ∷ []) old new status
  long_refused status long same said = refused (limit read.quantity (limit_of read.quantity + 1)) (inl (long, refl)) same said

  -- a file that could not be read
  pub not_read : (status : Status) → ReadFails old.faults new.faults read.name → new.files ≡ old.files → Said (read_fault_text read.name) ReadFault old.sink new.sink status
      → NotFetched (read ∷ []) old new status
  not_read status fails files said = failed read.name (inl refl) fails files said

-- ---- several files

-- these files were fetched, and nothing is changed
pub record FetchedSo (reads : List Read) (old now : World) (contents : List (List ℕ)) : Type 0 where
  pub unchanged : Unchanged old now
  pub read : AreRead old.files reads contents

module _ (before : List Read) (read : Read) (old now new : World) (contents : List (List ℕ)) (so : FetchedSo before old now contents) where
  pub fetched_more : (bytes : List ℕ) → Unchanged now new → AreRead now.files (read ∷ []) (bytes ∷ []) → FetchedSo (before ++ read ∷ []) old new (contents ++ bytes ∷ [])
  fetched_more bytes u r =
      let same = same_world old now so.unchanged in
      record {
        unchanged = subst (λ w. Unchanged w new) same u;
        read = read_behind old.files before contents read bytes so.read (subst (λ w. AreRead w.files (read ∷ []) (bytes ∷ [])) same r);
      }

  moved : (after : List Read) (status : Status) → NotFetched (read ∷ []) old new status → NotFetched (before ++ read ∷ after) old new status
  moved after status (failed name p fails files said) = failed name (at_behind old.files (λ read. name ≡ read.name) before contents read after so.read p) fails files said
  moved after status (refused refusal p same said) =
      refused refusal (at_behind old.files (λ read. IsTooLong old.files read × (refusal ≡ limit read.quantity (limit_of read.quantity + 1))) before contents read after so.read p) same said
  moved after status (no_memory_to_fetch u e) = no_memory_to_fetch u e

  pub fetched_less : (after : List Read) (status : Status) → NotFetched (read ∷ []) now new status → NotFetched (before ++ read ∷ after) old new status
  fetched_less after status n = moved after status (subst (λ w. NotFetched (read ∷ []) w new status) (same_world old now so.unchanged) n)

-- an item between those before it and those behind it
pub split_at : {X : Type 0} (xs : List X) (i : ℕ) (d : X) → i < length xs → take i xs ++ get_or xs i d ∷ drop (i + 1) xs ≡ xs
split_at xs i d within =
    let next = drop-cons xs i d within in
    ap (λ n. take i xs ++ get_or xs i d ∷ drop n xs) (add-one i) ∙ (ap (λ rest. take i xs ++ rest) (sym next) ∙ take-append-drop i xs)

-- the files of a list of reads as the code keeps them
module _ (reads : List ReadAsked) (i : ℕ) (d : ReadAsked) (within : i < length reads) (old now new : World) (contents : List Content)
    (so : FetchedSo (map read_in (take i reads)) old now (contents_in contents)) where
  abbrev next : Read
  next = read_in (get_or reads i d)

  -- the next one was fetched
  pub next_fetched : (content : Content) (all : List Content) → Unchanged now new → AreRead now.files (next ∷ []) (content_in content ∷ []) → all ≡ contents ++ content ∷ []
      → FetchedSo (map read_in (take (i + 1) reads)) old new (contents_in all)
  next_fetched content all u r e =
      let names = ap (map read_in) (take_more reads i d within) ∙ map-append read_in (take i reads) (get_or reads i d ∷ []) in
      let held = ap contents_in e ∙ map-append content_in contents (content ∷ []) in
      let made = fetched_more (map read_in (take i reads)) next old now new (contents_in contents) so (content_in content) u r in
      subst (λ names. FetchedSo names old new (contents_in all)) (sym names) (subst (FetchedSo (map read_in (take i reads) ++ next ∷ []) old new) (sym held) made)

  -- the next one wasn't
  pub next_not_fetched : (status : Status) → NotFetched (next ∷ []) now new status → NotFetched (map read_in reads) old new status
  next_not_fetched status n =
      let names = sym (map-append read_in (take i reads) (get_or reads i d ∷ drop (i + 1) reads)) ∙ ap (map read_in) (split_at reads i d within) in
      subst (λ names. NotFetched names old new status) names (fetched_less (map read_in (take i reads)) next old now new (contents_in contents) so (map read_in (drop (i + 1) reads)) status n)

-- what a push that succeeded leaves
pub pushed : {X U E : Type 0} (r : Result U E) (new all other : List X) → new ≡ (if is_ok r then all else other) → false ≡ is_err r → new ≡ all
pushed (Ok x) new all other e f = e
pushed (Err x) new all other e f = absurd cc

-- ---- files that are kept

with_both : (files : Option Files) (a b : List (List ℕ × List ℕ)) → with_files files (a ++ b) ≡ with_files (with_files files a) b
with_both files [] b = refl
with_both files (keep ∷ a) b = with_both (with_file files keep.0 keep.1) a b

-- so many of the files were kept, and nothing else is changed
pub record KeptSo (keeps : List (List ℕ × List ℕ)) (count : ℕ) (old now : World) : Type 0 where
  pub files : now.files ≡ with_files old.files (take count keeps)
  pub faults : now.faults ≡ old.faults
  pub sink : now.sink ≡ old.sink

-- the next of the files as the code keeps them
module _ (items : List Keep) (i : ℕ) (item : Keep) (within : i < length items) (is : item ≡ get_or items i item) (old now new : World) (so : KeptSo (map keep_in items) i old now) where
  abbrev keeps : List (List ℕ × List ℕ)
  keeps = map keep_in items

  here : get_or keeps i (keep_in item) ≡ keep_in item
  here = get_or-map keep_in items i item (keep_in item) within ∙ ap keep_in (sym is)

  inside : i < length keeps
  inside = omega (arith, within, length-map items keep_in)

  -- it was kept
  pub next_kept : new.files ≡ with_file now.files item.name.now item.bytes.items → new.faults ≡ now.faults → new.sink ≡ now.sink → KeptSo (map keep_in items) (i + 1) old new
  next_kept files faults sink =
      let more = take_more keeps i (keep_in item) inside ∙ ap (λ k. take i keeps ++ k ∷ []) here in
      record {
        files = files ∙ (ap (λ f. with_file f item.name.now item.bytes.items) so.files ∙ (sym (with_both old.files (take i keeps) (keep_in item ∷ [])) ∙ ap (with_files old.files) (sym more)));
        faults = faults ∙ so.faults;
        sink = sink ∙ so.sink;
      }

  module _ (plan : Plan) (same : plan.keeps ≡ keeps) where
    there : slice_get plan.keeps i ≡ Some (keep_in item)
    there = ap (λ k. slice_get k i) same ∙ (slice_get-get_or keeps i (keep_in item) inside ∙ ap Some here)

    before : new.files ≡ now.files → new.files ≡ with_files old.files (take i plan.keeps)
    before files = files ∙ (so.files ∙ ap (λ k. with_files old.files (take i k)) (sym same))

    -- it wasn't
    pub next_not_kept : (e : ShelfError) (status : Status) → new.files ≡ now.files → KeepFaults (Err e) now.faults new.faults item.name.now → NotKept e (write_fault_text item.name.now) now.sink new.sink status
        → Delivers plan old new status
    next_not_kept shelf.Failed status files fails said =
        not_kept i (keep_in item) there (subst (λ f. KeepFaults (Err shelf.Failed) f new.faults item.name.now) so.faults fails) (before files)
        (subst (λ s. NotKept shelf.Failed (write_fault_text item.name.now) s new.sink status) so.sink said)
    next_not_kept shelf.Memory status files fails said = no_memory_to_keep i (keep_in item) there (before files) (fails ∙ so.faults) (said.0 ∙ so.sink) said.1

-- all were kept, and the text was printed
pub kept_all : (plan : Plan) (items : List Keep) (i : ℕ) (old now new : World) (status : Status) → plan.keeps ≡ map keep_in items → length items ≤ i → KeptSo (map keep_in items) i old now
    → new.files ≡ now.files → new.faults ≡ now.faults → Said plan.text plan.status now.sink new.sink status → Delivers plan old new status
kept_all plan items i old now new status same past so files faults said =
    let all = take_all i (map keep_in items) (omega (arith, past, length-map items keep_in)) ∙ sym same in
    all_kept (files ∙ (so.files ∙ ap (with_files old.files) all)) (faults ∙ so.faults) (subst (λ s. Said plan.text plan.status s new.sink status) so.sink said)
