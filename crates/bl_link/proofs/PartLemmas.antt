-- A part is linked by the steps of its code.
use Rattle.std.proofs.Common.{◌≡◌, ◌∙◌, sym, ap, subst, ℕ, List, ◌++◌, map, Result, Ok}
use Rattle.bl_labels.specs.declared.labels.Labels.{Labels}
use Rattle.bl_wasm.specs.declared.module.Code.{Code}
use Rattle.bl_wasm.specs.declared.module.DataSegment.{DataSegment}
use Rattle.bl_wasm.specs.declared.module.ElementSegment.{ElementSegment}
use Rattle.bl_wasm.specs.declared.module.Module.{Module}
use Rattle.bl_link.specs.CanLink.{CanLink}
use Rattle.bl_link.specs.LinkAnswers.{Makes}
use Rattle.bl_link.specs.HasRoom.{HasRoom}
use Rattle.bl_link.specs.Links.{exported, part_of, with_code, with_given, with_next, with_part, with_segments}
use Rattle.bl_link.specs.ImportMatches.{all_given}
use Rattle.bl_link.specs.IndexSpaces.{External, LinkError, Part, Spaces, Store, on_ok, spaces_of}
use Rattle.bl_link.specs.Stores.{AreApart}
use Rattle.bl_link.proofs.Room.{room_of, values_apart}

-- a part is its fields
pub same_part : (part : Part) (name : List ℕ) (wasm : Module) (labels : Labels) → name ≡ part.name → wasm ≡ part.wasm → labels ≡ part.labels → part_of name wasm labels ≡ part
same_part part name wasm labels n w l =
    ap (λ (x : List ℕ). part_of x wasm labels) n ∙ ap (λ (x : Module). part_of part.name x labels) w ∙ ap (λ (x : Labels). part_of part.name part.wasm x) l

-- a part that is taken apart can be linked
pub can_link : (store : Store) (part : Part) (name : List ℕ) (wasm : Module) (labels : Labels) → name ≡ part.name → wasm ≡ part.wasm → labels ≡ part.labels → CanLink store part → CanLink store (part_of name wasm labels)
can_link store part name wasm labels n w l can = subst (CanLink store) (sym (same_part part name wasm labels n w l)) can

-- and what is made of it is what is made of the part
pub makes_part : {B : Type 0} (store new : Store) (number : ℕ) (part : Part) (name : List ℕ) (wasm : Module) (labels : Labels) (r : Result B LinkError) → name ≡ part.name → wasm ≡ part.wasm → labels ≡ part.labels
    → Makes r new (with_next (Ok store) (number, part_of name wasm labels)) → Makes r new (with_next (Ok store) (number, part))
makes_part store new number part name wasm labels r n w l h = subst (λ (q : Part). Makes r new (with_next (Ok store) (number, q))) (same_part part name wasm labels n w l) h

module _ (store : Store) (part : Part) (number : ℕ) (given : List External) (spaces : Spaces) (can : CanLink store part) (made : all_given store part.wasm number ≡ Ok given) (s : spaces ≡ spaces_of store part.wasm given) where
  pub room_at : HasRoom store.tree part spaces
  room_at = subst (HasRoom store.tree part) (sym s) (room_of store part number given can made)

  pub apart_at : AreApart (λ (value : List ℕ × External). value.0) (store.exports ++ map (exported part.name spaces) part.wasm.exports)
  apart_at = subst (λ (x : Spaces). AreApart (λ (value : List ℕ × External). value.0) (store.exports ++ map (exported part.name x) part.wasm.exports)) (sym s) (values_apart store part number given can made)

  pub makes_next : {B : Type 0} (new : Store) (r : Result B LinkError) → Makes r new (with_segments part.wasm.elements part.wasm.segments spaces number (with_part store part spaces)) → Makes r new (with_next (Ok store) (number, part))
  makes_next new r h =
      let whole : with_segments part.wasm.elements part.wasm.segments spaces number (with_part store part spaces) ≡ with_next (Ok store) (number, part) =
      ap (λ (x : Spaces). with_segments part.wasm.elements part.wasm.segments x number (with_part store part x)) s
      ∙ sym (ap (λ (o : Result (List External) LinkError). on_ok o (with_given store (number, part))) made) in
      subst (Makes r new) whole h

-- a module whose bodies were taken out has them back
pub given_back : (wasm : Module) (rest bodies : List Code) → bodies ≡ wasm.bodies → with_code (with_code wasm rest) bodies ≡ wasm
given_back wasm rest bodies same = ap (with_code wasm) same

-- what segments make of a store with the part
pub makes_segments : {B : Type 0} (store behind new : Store) (part : Part) (number : ℕ) (spaces : Spaces) (r : Result B LinkError) (elements : List ElementSegment) (segments : List DataSegment)
    → elements ≡ part.wasm.elements → segments ≡ part.wasm.segments → behind ≡ with_part store part spaces
    → Makes r new (with_segments elements segments spaces number behind) → Makes r new (with_segments part.wasm.elements part.wasm.segments spaces number (with_part store part spaces))
makes_segments store behind new part number spaces r elements segments e s b h =
    subst (Makes r new) (ap (λ (x : List ElementSegment). with_segments x segments spaces number behind) e
    ∙ ap (λ (x : List DataSegment). with_segments part.wasm.elements x spaces number behind) s
    ∙ ap (with_segments part.wasm.elements part.wasm.segments spaces number) b) h
