-- What a sink holds after several texts.
use Rattle.std.proofs.Common.{◌≡◌, ℕ, ◌+◌, ◌≤◌, List, ◌++◌, length, take, drop, Option, Some, None, refl, ap, sym, ◌∙◌, arith, append_assoc, length-append, subst}
use Rattle.std.proofs.Math.Seq.{take-add, take-append-add}
use Rattle.std.proofs.lemmas.List.{take-append-le}
use Rattle.bl_outside.specs.Faults.{Rose}
use Rattle.std.specs.Prelude.{Result, Ok, Err, IsErr}
use Rattle.bl_outside.specs.declared.sink.SinkFault.{SinkFault}
use Rattle.bl_outside.specs.Sink.{after_push}
use Rattle.bl_job.specs.Worlds.{took, Stream, TakenWhole, TakenInPart, Pushes}

pub took_both : (t : Option (List ℕ)) (a b : List ℕ) → took (took t a) b ≡ took t (a ++ b)
took_both None a b = refl
took_both (Some bytes) a b = ap Some (append_assoc bytes a b)

pub push_took : (n : ℕ) (t : Option (List ℕ)) (piece : List ℕ) → after_push (Ok n) t piece ≡ took t (take n piece)
push_took n None piece = refl
push_took n (Some bytes) piece = refl

-- a piece that was taken from a place on
pub push_further : (done n : ℕ) (t u : Option (List ℕ)) (text : List ℕ) → u ≡ took t (take done text) → after_push (Ok n) u (drop done text) ≡ took t (take (done + n) text)
push_further done n t u text e =
    push_took n u (drop done text)
    ∙ ap (λ v. took v (take n (drop done text))) e
    ∙ took_both t (take done text) (take n (drop done text))
    ∙ ap (took t) (sym (take-add done n text))

-- two texts that were both taken, one after the other
pub whole_both : (a b : List ℕ) (s t u : Stream) → TakenWhole a s t → TakenWhole b t u → TakenWhole (a ++ b) s u
whole_both a b s t u first second = record {
  taken = second.taken ∙ ap (λ w. took w b) first.taken ∙ took_both s.taken a b;
  faults = second.faults ∙ first.faults;
}

-- the first of two texts was cut
pub cut_first : (a b : List ℕ) (s t : Stream) → TakenInPart a s t → TakenInPart (a ++ b) s t
cut_first a b s t first = record {
  count = first.count;
  within = omega (arith, first.within, length-append a b);
  taken = first.taken ∙ ap (took s.taken) (sym (take-append-le first.count a b first.within));
  rose = first.rose;
  not_fell = first.not_fell;
}

-- the second of two texts was cut
pub cut_second : (a b : List ℕ) (s t u : Stream) → TakenWhole a s t → TakenInPart b t u → TakenInPart (a ++ b) s u
cut_second a b s t u first second = record {
  count = length a + second.count;
  within = omega (arith, second.within, length-append a b);
  taken = second.taken ∙ ap (λ w. took w (take second.count b)) first.taken ∙ took_both s.taken a (take second.count b) ∙ ap (took s.taken) (sym (take-append-add a b second.count));
  rose = subst (λ n. Rose n u.faults) first.faults second.rose;
  not_fell = subst (λ n. n ≤ u.faults) first.faults second.not_fell;
}

-- a call that failed, and cut the text
pub cut_pushes : (r : Result (Unit {0}) SinkFault) (text : List ℕ) (s t : Stream) → IsErr r → TakenInPart text s t → Pushes r text s t
cut_pushes (Err e) text s t failed c = c
cut_pushes (Ok x) text s t failed c = cc

-- a text that was taken, and one that was taken or cut
pub pushes_both : (r : Result (Unit {0}) SinkFault) (a b : List ℕ) (s t u : Stream) → TakenWhole a s t → Pushes r b t u → Pushes r (a ++ b) s u
pushes_both (Ok x) a b s t u first second = whole_both a b s t u first second
pushes_both (Err e) a b s t u first second = cut_second a b s t u first second
