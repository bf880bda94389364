use Rattle.std.proofs.Common.{◌≡◌, ℕ, true, false, Bool, nat_eq, is_some, sym, ap, ◌∙◌}
use Rattle.std.specs.Map.{lookup}
use Rattle.lru.specs.LruCache.{LruCache, lru_cache, promoted, put_entries}
use Rattle.bl_predict.specs.Lines.{has, lines_of, as_set}
use Rattle.bl_predict.proofs.CacheLemmas.{is_there, when_promoted, when_kept, when_put, on_err}
use Rattle.bl_predict.proofs.cache.touch.Goals as goal

pub returns-then-promote-clause-hit : goal.returns-then-promote-clause-hit
returns-then-promote-clause-hit c =
    c.if-promote.ensures.value ∙ ap (λ (s : LruCache ℕ Bool). is_some (lookup (nat_eq c.args.line) s.entries)) c.requires ∙ is_there c.args.line (lines_of c.args.set.now)

pub returns-then-promote-clause-lines : goal.returns-then-promote-clause-lines
returns-then-promote-clause-lines c =
    let most = c.args.set.now.cap in
    let lines = lines_of c.args.set.now in
    let hit : true ≡ has c.args.line lines = c.if-promote.ensures.value ∙ ap (λ (s : LruCache ℕ Bool). is_some (lookup (nat_eq c.args.line) s.entries)) c.requires ∙ is_there c.args.line lines in
    c.promote.ensures.entries ∙ ap (λ es. lru_cache es most) (ap (λ (s : LruCache ℕ Bool). promoted (nat_eq c.args.line) s.entries) c.requires ∙ when_promoted c.args.line most lines (sym hit))

pub returns-in_err-put-clause-err : goal.returns-in_err-put-clause-err
returns-in_err-put-clause-err c =
    let most = c.args.set.now.cap in
    let lines = lines_of c.args.set.now in
    let hit : false ≡ has c.args.line lines = c.if-promote.ensures.value ∙ ap (λ (s : LruCache ℕ Bool). is_some (lookup (nat_eq c.args.line) s.entries)) c.requires ∙ is_there c.args.line lines in
    on_err c.from_residual.result (c.in_err-put.ensures.err
    ∙ c.promote.ensures.entries ∙ ap (λ es. lru_cache es most) (ap (λ (s : LruCache ℕ Bool). promoted (nat_eq c.args.line) s.entries) c.requires ∙ when_kept c.args.line lines (sym hit)) ∙ sym c.requires)

pub returns-clause-hit : goal.returns-clause-hit
returns-clause-hit c =
    c.if-promote.ensures.value ∙ ap (λ (s : LruCache ℕ Bool). is_some (lookup (nat_eq c.args.line) s.entries)) c.requires ∙ is_there c.args.line (lines_of c.args.set.now)

pub returns-clause-lines : goal.returns-clause-lines
returns-clause-lines c =
    let most = c.args.set.now.cap in
    let lines = lines_of c.args.set.now in
    let hit : false ≡ has c.args.line lines = c.if-promote.ensures.value ∙ ap (λ (s : LruCache ℕ Bool). is_some (lookup (nat_eq c.args.line) s.entries)) c.requires ∙ is_there c.args.line lines in
    let same : c.promote.new.self ≡ as_set most lines =
    c.promote.ensures.entries ∙ ap (λ es. lru_cache es most) (ap (λ (s : LruCache ℕ Bool). promoted (nat_eq c.args.line) s.entries) c.requires ∙ when_kept c.args.line lines (sym hit)) in
    c.in_ok-put.ensures.entries ∙ ap (λ (s : LruCache ℕ Bool). lru_cache (put_entries nat_eq s c.args.line true) s.cap) same
    ∙ ap (λ es. lru_cache es most) (when_put c.args.line most lines (sym hit))
