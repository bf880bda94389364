-- Modules that are loaded can be linked: as parts they are within the limits, and their names are apart.
use Rattle.std.proofs.Common.{◌≡◌, ℕ, suc, ◌≤◌, List, [], ◌∷◌, length, refl, ap, sym, ◌∙◌, subst, arith}
use Rattle.std.specs.List.{All, AllZip}
use Rattle.std.proofs.lemmas.List.Elements.{All-cons, All-head, All-nil, All-tail}
use Rattle.bl_base.proofs.Lists.{zip_get, mapped_get}
use Rattle.bl_base.specs.Quantity.{limit_of}
use Rattle.bl_base.specs.declared.quantity.Quantity.TheVariants as quantity
use Rattle.bl_labels.specs.Faults.{IsConsistent}
use Rattle.bl_link.specs.Linkable.{AreParts, IsPart, NoSolidus}
use Rattle.bl_link.specs.Links.{part_of}
use Rattle.bl_link.specs.declared.part.Part.{Part as LinkPart}
use Rattle.bl_link.proofs.SpelledParts.{labelled_part}
use Rattle.bl_build.specs.LoadStages.{Accepted, AreShort, LabelledModule, Named, decoding, labelling, linked_parts, parts_of, validation}
use Rattle.bl_text.specs.Names.{AreNamedApart, module_name}
use Rattle.bl_job.specs.Stages.{AllPass}
use Rattle.bl_build.proofs.LoadLemmas.{IsAccepted, all_accepted}
use Rattle.bl_text.proofs.ModuleNames.{no_solidus}

-- ---- each module beside the word of its file

-- a module, with labels that don't contradict themselves, of the file of that word
record IsOf (labelled : LabelledModule) (word : List ℕ) : Type 0 where
  bytes : List ℕ
  short : length bytes ≤ limit_of quantity.Module
  same_name : labelled.name ≡ module_name word
  accepted : Accepted bytes labelled.tree labelled.labels

are_of : (words contents : List (List ℕ)) (all : List LabelledModule) → AreShort words contents → AllZip IsAccepted (parts_of words contents) all → AllZip IsOf all words
are_of [] [] [] read h = tt
are_of [] [] (one ∷ all) read h = absurd h
are_of [] (bytes ∷ contents) all read h = absurd read
are_of (word ∷ words) [] all read h = absurd read
are_of (word ∷ words) (bytes ∷ contents) [] read h = absurd h
are_of (word ∷ words) (bytes ∷ contents) (one ∷ all) read h =
    (record { bytes = bytes; short = read.0; same_name = h.0.0; accepted = h.0.1 }, are_of words contents all read.1 h.1)

are_many : (all : List LabelledModule) (words : List (List ℕ)) → AllZip IsOf all words → length (linked_parts all) ≡ length words
are_many [] [] h = refl
are_many [] (word ∷ words) h = absurd h
are_many (one ∷ all) [] h = absurd h
are_many (one ∷ all) (word ∷ words) h = ap suc (are_many all words h.1)

abbrev IsSane : LabelledModule → Type 0
IsSane one = IsConsistent one.labels

is_part : (one : LabelledModule) (word : List ℕ) → IsSane one → IsOf one word → IsPart (part_of one.name one.tree one.labels)
is_part one word sane h =
    let named : NoSolidus one.name = subst NoSolidus (sym h.same_name) (no_solidus word) in
    let short = h.short in
    labelled_part one.name h.bytes one.tree one.labels sane named h.accepted.spelled (omega (arith, short)) h.accepted.within

each_part : (all : List LabelledModule) (words : List (List ℕ)) → All IsSane all → AllZip IsOf all words → All IsPart (linked_parts all)
each_part [] words sane h = All-nil IsPart
each_part (one ∷ all) [] sane h = absurd h
each_part (one ∷ all) (word ∷ words) sane h =
    All-cons IsPart (part_of one.name one.tree one.labels) (linked_parts all) (is_part one word (All-head IsSane one all sane) h.0)
    (each_part all words (All-tail IsSane one all sane) h.1)

-- ---- the parts

pub linkable : (words contents : List (List ℕ)) (xs ys : List Named) (zs : List LabelledModule) → length words ≤ limit_of quantity.Modules → AreNamedApart words → AreShort words contents
    → AllPass decoding (parts_of words contents) xs → AllPass validation xs ys → AllPass labelling ys zs → All (λ (one : LabelledModule). IsConsistent one.labels) zs → AreParts (linked_parts zs)
linkable words contents xs ys zs few apart read d v l sane =
    let h = are_of words contents zs read (all_accepted (parts_of words contents) xs ys zs d v l) in
    record {
      each = each_part zs words sane h;
      few = omega (arith, are_many zs words h, few);
      distinct = λ i j a b first second same.
          let x = mapped_get (λ (one : LabelledModule). part_of one.name one.tree one.labels) zs i a first in
          let y = mapped_get (λ (one : LabelledModule). part_of one.name one.tree one.labels) zs j b second in
          let u = zip_get IsOf zs words i x.0 h x.1 in
          let w = zip_get IsOf zs words j y.0 h y.1 in
          let names = sym u.2.same_name ∙ (ap (λ (p : LinkPart). p.name) x.2 ∙ (same ∙ (sym (ap (λ (p : LinkPart). p.name) y.2) ∙ w.2.same_name))) in
          apart.apart i j u.0 w.0 u.1 w.1 names;
    }
