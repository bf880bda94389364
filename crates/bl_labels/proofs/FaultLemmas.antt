-- Entries are judged one after another.
use Rattle.std.proofs.Common.{◌≡◌, ◌∙◌, ap, sym, refl, subst, ℕ, ◌+◌, ◌<◌, ◌≤◌, List, [], ◌∷◌, ◌++◌, append-nil, append_assoc, length, take, drop, get_or, true, false, Bool, ◌⊎◌, inl, inr, Option, Some, None, Result, Ok, Err, filter_map}
use Rattle.std.specs.Prelude.{nat_eq, ◌||◌, IfOk}
use Rattle.std.specs.Option.{option_or}
use Rattle.std.proofs.lemmas.Bool.Decides.{eqb_tells}
use Rattle.std.proofs.lemmas.List.{drop_all, drop_more, get_or_default, take_all, take_more}
use Rattle.std.proofs.lemmas.List.Elements.{filter_map-append}
use Rattle.std.proofs.lemmas.List.Folds.{list_any-append}
use Rattle.bl_base.proofs.OptionLemmas.{either_none}
use Rattle.bl_wasm.specs.declared.module.Module.{Module}
use Rattle.bl_wasm.specs.declared.types.FuncType.{FuncType}
use Rattle.bl_labels.specs.Entries.{section}
use Rattle.bl_labels.specs.Faults.{IsConsistent, demanded_in, fault, first_broken, first_fault, global_in, judged, judged_by, labels_by, memory_in, param_in, result_in, spaces_of, with_entry}
use Rattle.bl_labels.specs.LabelSets.{labels_with}
use Rattle.bl_labels.specs.LabelledPlaces.{is_listed, unlabelled}
use Rattle.bl_labels.specs.LabelAnswers.{InSection, Judges, ReadsSection}
use Rattle.bl_labels.specs.declared.entry.Entry.{Entry}
use Rattle.bl_labels.specs.declared.entry.Entry.TheVariants.{SecretParam, SecretGlobal, SecretMemory, PublicResult, PublicGlobal}
use Rattle.bl_labels.specs.declared.error.LabelError.{LabelError}
use Rattle.bl_labels.specs.declared.error.LabelError.TheVariants.{Both, Malformed, Memory, OnImport, OutOfRange, Twice}
use Rattle.bl_labels.specs.declared.labels.Labels.{Labels}
use Rattle.bl_labels.specs.declared.spaces.Spaces.{Spaces}

-- ---- one entry more

labels_same : (a b : Labels) → a.params ≡ b.params → a.globals ≡ b.globals → a.memories ≡ b.memories → a.results ≡ b.results → a.demanded ≡ b.demanded → a ≡ b
labels_same a b p g m r d =
    ap (λ x. labels_with x a.globals a.memories a.results a.demanded) p
    ∙ ap (λ x. labels_with b.params x a.memories a.results a.demanded) g
    ∙ ap (λ x. labels_with b.params b.globals x a.results a.demanded) m
    ∙ ap (λ x. labels_with b.params b.globals b.memories x a.demanded) r
    ∙ ap (λ x. labels_with b.params b.globals b.memories b.results x) d

-- what two lists of entries name
both_parts : (before more : List Entry) → labels_by (before ++ more) ≡ labels_with (filter_map param_in before ++ filter_map param_in more) (filter_map global_in before ++ filter_map global_in more) (filter_map memory_in before ++ filter_map memory_in more) (filter_map result_in before ++ filter_map result_in more) (filter_map demanded_in before ++ filter_map demanded_in more)
both_parts before more =
    labels_same (labels_by (before ++ more)) _ (filter_map-append param_in before more) (filter_map-append global_in before more) (filter_map-append memory_in before more) (filter_map-append result_in before more) (filter_map-append demanded_in before more)

pub labels_more : (before : List Entry) (one : Entry) → labels_by (before ++ one ∷ []) ≡ with_entry (labels_by before) one
labels_more before (SecretParam x) = both_parts before (SecretParam x ∷ []) ∙ labels_same _ _ refl (append-nil _) (append-nil _) (append-nil _) (append-nil _)
labels_more before (SecretGlobal x) = both_parts before (SecretGlobal x ∷ []) ∙ labels_same _ _ (append-nil _) refl (append-nil _) (append-nil _) (append-nil _)
labels_more before (SecretMemory x) = both_parts before (SecretMemory x ∷ []) ∙ labels_same _ _ (append-nil _) (append-nil _) refl (append-nil _) (append-nil _)
labels_more before (PublicResult x) = both_parts before (PublicResult x ∷ []) ∙ labels_same _ _ (append-nil _) (append-nil _) (append-nil _) refl (append-nil _)
labels_more before (PublicGlobal x) = both_parts before (PublicGlobal x ∷ []) ∙ labels_same _ _ (append-nil _) (append-nil _) (append-nil _) (append-nil _) refl

-- ---- the loop

-- the labels so far, and that nothing was wrong
pub record SoFar (tree : Module) (entries : List Entry) (i : ℕ) (labels : Labels) : Type 0 where
  pub are : labels ≡ labels_by (take i entries)
  pub left : first_fault tree [] entries ≡ first_fault tree (take i entries) (drop i entries)

pub begins : (tree : Module) (entries : List Entry) (labels : Labels) → labels ≡ unlabelled → SoFar tree entries 0 labels
begins tree entries labels none = record { are = none; left = refl }

-- what is wrong with the next one
next_of : (tree : Module) (entries : List Entry) (i : ℕ) (labels : Labels) (one : Entry) → SoFar tree entries i labels → i < length entries → one ≡ get_or entries i one
    → first_fault tree [] entries ≡ option_or (fault tree.types (spaces_of tree) labels one) (first_fault tree (take (i + 1) entries) (drop (i + 1) entries))
next_of tree entries i labels one so_far below is =
    let rest : drop i entries ≡ one ∷ drop (i + 1) entries = drop_more entries i one below ∙ ap (λ x. x ∷ drop (i + 1) entries) (sym is) in
    let front : take i entries ++ one ∷ [] ≡ take (i + 1) entries = ap (λ x. take i entries ++ x ∷ []) is ∙ sym (take_more entries i one below) in
    so_far.left
    ∙ ap (first_fault tree (take i entries)) rest
    ∙ ap (λ l. option_or (fault tree.types (spaces_of tree) l one) (first_fault tree (take i entries ++ one ∷ []) (drop (i + 1) entries))) (sym so_far.are)
    ∙ ap (λ es. option_or (fault tree.types (spaces_of tree) labels one) (first_fault tree es (drop (i + 1) entries))) front

pub goes_on : (tree : Module) (entries : List Entry) (i : ℕ) (labels more : Labels) (one : Entry) → SoFar tree entries i labels → i < length entries → one ≡ get_or entries i one
    → fault tree.types (spaces_of tree) labels one ≡ None → more ≡ with_entry labels one → SoFar tree entries (i + 1) more
goes_on tree entries i labels more one so_far below is fine made =
    let front : take i entries ++ one ∷ [] ≡ take (i + 1) entries = ap (λ x. take i entries ++ x ∷ []) is ∙ sym (take_more entries i one below) in
    record {
      are = made ∙ ap (λ l. with_entry l one) so_far.are ∙ sym (labels_more (take i entries) one) ∙ ap labels_by front;
      left = next_of tree entries i labels one so_far below is ∙ ap (λ o. option_or o (first_fault tree (take (i + 1) entries) (drop (i + 1) entries))) fine;
    }

judges : (tree : Module) (entries : List Entry) (answer : Result Labels LabelError) → answer ≡ judged tree entries → Judges tree entries answer
judges tree entries (Ok labels) h = h
judges tree entries (Err Memory) h = tt
judges tree entries (Err error) h = h

pub stops : (tree : Module) (entries : List Entry) (i : ℕ) (labels : Labels) (one : Entry) (error : LabelError) → SoFar tree entries i labels → i < length entries → one ≡ get_or entries i one
    → fault tree.types (spaces_of tree) labels one ≡ Some error → Judges tree entries (Err error)
stops tree entries i labels one error so_far below is wrong =
    judges tree entries (Err error)
    (sym (ap (λ o. judged_by o entries) (next_of tree entries i labels one so_far below is ∙ ap (λ o. option_or o (first_fault tree (take (i + 1) entries) (drop (i + 1) entries))) wrong)))

-- by what was read of the module
fault_at : (tree : Module) (entries : List Entry) (i : ℕ) (labels : Labels) (d : Entry) (types : List FuncType) (spaces : Spaces) (found : Option LabelError) → types ≡ tree.types → spaces ≡ spaces_of tree
    → fault types spaces labels (get_or entries i d) ≡ found → fault tree.types (spaces_of tree) labels (get_or entries i d) ≡ found
fault_at tree entries i labels d types spaces found t s is =
    ap (λ ts. fault ts (spaces_of tree) labels (get_or entries i d)) (sym t) ∙ ap (λ sp. fault types sp labels (get_or entries i d)) (sym s) ∙ is

pub goes_at : (tree : Module) (entries : List Entry) (i : ℕ) (labels more : Labels) (d : Entry) (types : List FuncType) (spaces : Spaces) → types ≡ tree.types → spaces ≡ spaces_of tree → SoFar tree entries i labels → i < length entries
    → fault types spaces labels (get_or entries i d) ≡ None → more ≡ with_entry labels (get_or entries i d) → SoFar tree entries (i + 1) more
goes_at tree entries i labels more d types spaces t s so_far below fine made =
    goes_on tree entries i labels more (get_or entries i d) so_far below (get_or_default entries i d (get_or entries i d) below) (fault_at tree entries i labels d types spaces None t s fine) made

pub stops_at : (tree : Module) (entries : List Entry) (i : ℕ) (labels : Labels) (d : Entry) (types : List FuncType) (spaces : Spaces) (error : LabelError) → types ≡ tree.types → spaces ≡ spaces_of tree → SoFar tree entries i labels → i < length entries
    → fault types spaces labels (get_or entries i d) ≡ Some error → Judges tree entries (Err error)
stops_at tree entries i labels d types spaces error t s so_far below wrong =
    stops tree entries i labels (get_or entries i d) error so_far below (get_or_default entries i d (get_or entries i d) below) (fault_at tree entries i labels d types spaces (Some error) t s wrong)

pub whole : (tree : Module) (entries : List Entry) (i : ℕ) (labels given : Labels) → SoFar tree entries i labels → length entries ≤ i → given ≡ labels → Judges tree entries (Ok given)
whole tree entries i labels given so_far past same =
    let left : first_fault tree [] entries ≡ None = so_far.left ∙ ap (first_fault tree (take i entries)) (drop_all i entries past) in
    let all : labels_by entries ≡ given = ap labels_by (sym (take_all i entries past)) ∙ sym so_far.are ∙ sym same in
    sym (ap (λ o. judged_by o entries) left ∙ ap (λ l. Ok l) all)

-- ---- no global is both

-- an entry that nothing is wrong with wasn't named by the other kind
not_both : (outside on_import twice both : Bool) → first_broken outside on_import twice both ≡ None → both ≡ false
not_both true i t b none = absurd (cc)
not_both false true t b none = absurd (cc)
not_both false false true b none = absurd (cc)
not_both false false false true none = absurd (cc)
not_both false false false false none = refl

or_parts : (a b : Bool) → (a || b) ≡ true → (a ≡ true) ⊎ (b ≡ true)
or_parts true b h = inl refl
or_parts false b h = inr h

or_false : (a b : Bool) → a ≡ false → b ≡ false → (a || b) ≡ false
or_false true b h k = absurd (cc)
or_false false b h k = k

single : (a : Bool) → (a || false) ≡ true → a ≡ true
single true h = refl
single false h = absurd (cc)

-- a number that is listed with one more is listed, or is that one
listed_more : (list : List ℕ) (one index : ℕ) → is_listed (list ++ one ∷ []) index ≡ true → (is_listed list index ≡ true) ⊎ (index ≡ one)
listed_more list one index h = by_cases (or_parts (is_listed list index) (nat_eq index one || false) (sym (list_any-append (nat_eq index) list (one ∷ [])) ∙ h)) (eqb_tells index one)
  where
    by_cases : (is_listed list index ≡ true) ⊎ ((nat_eq index one || false) ≡ true) → ((nat_eq index one ≡ true) × (index ≡ one)) ⊎ ((nat_eq index one ≡ false) × (index ≡ one → ⊥)) → (is_listed list index ≡ true) ⊎ (index ≡ one)
    by_cases (inl p) q = inl p
    by_cases (inr p) (inl q) = inr q.1
    by_cases (inr p) (inr q) = let clash : true ≡ false = sym (single (nat_eq index one) p) ∙ q.0 in absurd (cc)

secret_more : (labels : Labels) (one : ℕ) → IsConsistent labels → is_listed labels.demanded one ≡ false → IsConsistent (record labels { globals = labels.globals ++ one ∷ [] })
secret_more labels one good fine index h = by_cases (listed_more labels.globals one index h)
  where
    by_cases : (is_listed labels.globals index ≡ true) ⊎ (index ≡ one) → is_listed labels.demanded index ≡ false
    by_cases (inl p) = good index p
    by_cases (inr p) = ap (is_listed labels.demanded) p ∙ fine

demanded_more : (labels : Labels) (one : ℕ) → IsConsistent labels → is_listed labels.globals one ≡ false → IsConsistent (record labels { demanded = labels.demanded ++ one ∷ [] })
demanded_more labels one good fine index h =
    by_cases (eqb_tells index one)
  where
    by_cases : ((nat_eq index one ≡ true) × (index ≡ one)) ⊎ ((nat_eq index one ≡ false) × (index ≡ one → ⊥)) → is_listed (labels.demanded ++ one ∷ []) index ≡ false
    by_cases (inl p) = let clash : true ≡ false = sym h ∙ ap (is_listed labels.globals) p.1 ∙ fine in absurd (cc)
    by_cases (inr p) = list_any-append (nat_eq index) labels.demanded (one ∷ []) ∙ or_false (is_listed labels.demanded index) (nat_eq index one || false) (good index h) (or_false (nat_eq index one) false p.0 refl)

step_consistent : (types : List FuncType) (spaces : Spaces) (labels : Labels) (one : Entry) → fault types spaces labels one ≡ None → IsConsistent labels → IsConsistent (with_entry labels one)
step_consistent types spaces labels (SecretParam x) fine good = good
step_consistent types spaces labels (SecretGlobal x) fine good = secret_more labels x good (not_both _ _ _ (is_listed labels.demanded x) fine)
step_consistent types spaces labels (SecretMemory x) fine good = good
step_consistent types spaces labels (PublicResult x) fine good = good
step_consistent types spaces labels (PublicGlobal x) fine good = demanded_more labels x good (not_both _ _ _ (is_listed labels.globals x) fine)

consistent_behind : (tree : Module) (entries before : List Entry) → first_fault tree before entries ≡ None → IsConsistent (labels_by before) → IsConsistent (labels_by (before ++ entries))
consistent_behind tree [] before none good = subst (λ es. IsConsistent (labels_by es)) (sym (append-nil before)) good
consistent_behind tree (one ∷ later) before none good =
    let parts = either_none (fault tree.types (spaces_of tree) (labels_by before) one) (first_fault tree (before ++ one ∷ []) later) none in
    let next : IsConsistent (labels_by (before ++ one ∷ [])) = subst IsConsistent (sym (labels_more before one)) (step_consistent tree.types (spaces_of tree) (labels_by before) one parts.0 good) in
    subst (λ es. IsConsistent (labels_by es)) (append_assoc before (one ∷ []) later) (consistent_behind tree later (before ++ one ∷ []) parts.1 next)

judged_consistent : (tree : Module) (entries : List Entry) (o : Option LabelError) (labels : Labels) → first_fault tree [] entries ≡ o → Ok labels ≡ judged_by o entries → IsConsistent labels
judged_consistent tree entries None labels is h =
    let same : labels ≡ labels_by entries = cc in
    subst IsConsistent (sym same) (consistent_behind tree entries [] is (λ index listed. absurd (cc)))
judged_consistent tree entries (Some e) labels is h = absurd (cc)

pub consistent : (tree : Module) (bytes : List ℕ) (answer : Result Labels LabelError) → InSection tree bytes answer → IfOk answer IsConsistent
consistent tree bytes (Ok labels) (inl h) = judged_consistent tree h.0 (first_fault tree [] h.0) labels refl h.2
consistent tree bytes (Ok labels) (inr h) = let clash = h.0 in absurd (cc)
consistent tree bytes (Err error) h = tt

-- ---- want of memory is no fault of entries

-- a fault that isn't want of memory
abbrev IsWrong : Option LabelError → Type 0
IsWrong (Some Memory) = ⊥
IsWrong other = Unit {0}

broken_wrong : (outside on_import twice both : Bool) → IsWrong (first_broken outside on_import twice both)
broken_wrong true i t b = tt
broken_wrong false true t b = tt
broken_wrong false false true b = tt
broken_wrong false false false true = tt
broken_wrong false false false false = tt

fault_wrong : (types : List FuncType) (spaces : Spaces) (before : Labels) (one : Entry) → IsWrong (fault types spaces before one)
fault_wrong types spaces before (SecretParam x) = broken_wrong _ _ _ _
fault_wrong types spaces before (SecretGlobal x) = broken_wrong _ _ _ _
fault_wrong types spaces before (SecretMemory x) = broken_wrong _ _ _ _
fault_wrong types spaces before (PublicResult x) = broken_wrong _ _ _ _
fault_wrong types spaces before (PublicGlobal x) = broken_wrong _ _ _ _

or_wrong : (a b : Option LabelError) → IsWrong a → IsWrong b → IsWrong (option_or a b)
or_wrong None b p q = q
or_wrong (Some error) b p q = p

first_wrong : (tree : Module) (later before : List Entry) → IsWrong (first_fault tree before later)
first_wrong tree [] before = tt
first_wrong tree (one ∷ later) before =
    or_wrong (fault tree.types (spaces_of tree) (labels_by before) one) (first_fault tree (before ++ one ∷ []) later) (fault_wrong tree.types (spaces_of tree) (labels_by before) one)
    (first_wrong tree later (before ++ one ∷ []))

pub never_memory : (tree : Module) (entries : List Entry) → judged tree entries ≡ Err Memory → ⊥
never_memory tree entries e = of_found (first_fault tree [] entries) (first_wrong tree entries []) e
  where
    of_found : (found : Option LabelError) → IsWrong found → judged_by found entries ≡ Err Memory → ⊥
    of_found None is e = cc
    of_found (Some error) is e = let same : error ≡ Memory = cc in subst (λ (f : LabelError). IsWrong (Some f)) same is

-- ---- a section

-- the answer of entries is that of the section that spells them
pub of_section : (tree : Module) (bytes : List ℕ) (entries these : List Entry) (answer : Result Labels LabelError) → section entries bytes → these ≡ entries → Judges tree these answer → InSection tree bytes answer
of_section tree bytes entries these (Ok labels) spelled same h = inl (entries, spelled, h ∙ ap (judged tree) same)
of_section tree bytes entries these (Err Memory) spelled same h = tt
of_section tree bytes entries these (Err error) spelled same h = inl (entries, spelled, h ∙ ap (judged tree) same)

-- bytes that spell none
pub not_read : (tree : Module) (bytes : List ℕ) (error : LabelError) → ReadsSection bytes (Err error) → InSection tree bytes (Err error)
not_read tree bytes Malformed none = inr (refl, none)
not_read tree bytes Memory none = tt
not_read tree bytes error none = absurd none
