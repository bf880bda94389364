-- A module has labels, or one fault of them: its section spells one list of entries.
use Rattle.std.proofs.Common.{◌≡◌, ℕ, inl, inr, List, [], ◌∷◌, Some, refl, ap, sym, ◌∙◌}
use Rattle.std.specs.Prelude.{Result, Ok, Err}
use Rattle.bl_wasm.specs.declared.module.Module.{Module}
use Rattle.bl_code.proofs.Unique.{byte_same, seq_same, vec_prefix_free}
use Rattle.bl_labels.specs.EntryLaws.{entry_prefix_free}
use Rattle.bl_labels.specs.Faults.{judged, sections_of}
use Rattle.bl_labels.specs.LabelAnswers.{Answers, InSection, Tells}
use Rattle.bl_labels.specs.declared.error.LabelError.{LabelError}
use Rattle.bl_labels.specs.declared.error.LabelError.TheVariants as label
use Rattle.bl_labels.specs.declared.labels.Labels.{Labels}
use Rattle.bl_build.specs.LoadStages.{AreTold, fault_of}

-- an answer that isn't want of memory
abbrev IsTold : Result Labels LabelError → Type 0
IsTold (Ok labels) = Unit {0}
IsTold (Err label.Memory) = ⊥
IsTold (Err error) = Unit {0}

-- one list of entries is spelled, so there is one answer
one_answer : (tree : Module) (bytes : List ℕ) (a b : Result Labels LabelError) → Answers tree bytes a → Answers tree bytes b → a ≡ b
one_answer tree bytes a b (inl h) (inl k) =
    let same = (seq_same (byte_same h.1.version k.1.version) (λ e. (vec_prefix_free entry_prefix_free).same h.0 k.0)).both bytes bytes [] [] h.1.spelled k.1.spelled refl in
    h.2 ∙ ap (judged tree) same.1 ∙ sym k.2
one_answer tree bytes a b (inl h) (inr k) = absurd (k.1 h.0 h.1)
one_answer tree bytes a b (inr h) (inl k) = absurd (h.1 k.0 k.1)
one_answer tree bytes a b (inr h) (inr k) = h.0 ∙ sym k.0

answers_of : (tree : Module) (bytes : List ℕ) (a : Result Labels LabelError) → IsTold a → InSection tree bytes a → Answers tree bytes a
answers_of tree bytes (Ok labels) is h = h
answers_of tree bytes (Err label.Malformed) is h = h
answers_of tree bytes (Err label.Twice) is h = h
answers_of tree bytes (Err label.OutOfRange) is h = h
answers_of tree bytes (Err label.OnImport) is h = h
answers_of tree bytes (Err label.Both) is h = h
answers_of tree bytes (Err label.Memory) is h = absurd is

one_by : (tree : Module) (sections : List (List ℕ)) (a b : Result Labels LabelError) → IsTold a → IsTold b → Tells tree sections a → Tells tree sections b → a ≡ b
one_by tree [] a b x y h k = h ∙ sym k
one_by tree (bytes ∷ []) a b x y h k = one_answer tree bytes a b (answers_of tree bytes a x h) (answers_of tree bytes b y k)
one_by tree (first ∷ second ∷ more) a b x y h k = h ∙ sym k

one_told : (tree : Module) (a b : Result Labels LabelError) → IsTold a → IsTold b → AreTold tree a → AreTold tree b → a ≡ b
one_told tree a b x y h k = one_by tree (sections_of tree.customs) a b x y h k

pub one_labels : (tree : Module) (a b : Labels) → AreTold tree (Ok a) → AreTold tree (Ok b) → a ≡ b
one_labels tree a b h k = let same = one_told tree (Ok a) (Ok b) tt tt h k in cc

-- a fault that is told isn't want of memory
told_fault : (error : LabelError) (wrong : List ℕ) → fault_of error ≡ Some wrong → IsTold (Err error)
told_fault label.Malformed wrong is = tt
told_fault label.Twice wrong is = tt
told_fault label.OutOfRange wrong is = tt
told_fault label.OnImport wrong is = tt
told_fault label.Both wrong is = tt
told_fault label.Memory wrong is = absurd cc

pub one_fault : (tree : Module) (a b : LabelError) (wrong other : List ℕ) → AreTold tree (Err a) → AreTold tree (Err b) → fault_of a ≡ Some wrong → fault_of b ≡ Some other → wrong ≡ other
one_fault tree a b wrong other h k is these =
    let same = one_told tree (Err a) (Err b) (told_fault a wrong is) (told_fault b other these) h k in
    let errors : a ≡ b = cc in
    let found : Some wrong ≡ Some other = sym is ∙ ap fault_of errors ∙ these in
    cc

pub labels_or_fault : (tree : Module) (labels : Labels) (error : LabelError) (wrong : List ℕ) → AreTold tree (Ok labels) → AreTold tree (Err error) → fault_of error ≡ Some wrong → ⊥
labels_or_fault tree labels error wrong h k is = let same = one_told tree (Ok labels) (Err error) tt (told_fault error wrong is) h k in cc
