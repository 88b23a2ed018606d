use Rattle.std.proofs.Common.{◌≡◌, ◌∷◌, ◌++◌, ◌∙◌, [], true, ap, cond, map, string_bytes, sym}
use Rattle.std.proofs.lemmas.List.{map-append}
use Rattle.std.proofs.lemmas.Map.Text.{btree_set_updates_text}
use Rattle.std.specs.BTreeSet.{contains_text}
use Rattle.std.specs.Str.{bytes_eq}
use Rattle.liquid_jekyll_host_filters.specs.Groups.{has_text}
use Rattle.liquid_jekyll_host_filters.proofs.GroupedItems.{seen_more}
use Rattle.liquid_jekyll_host_filters.proofs.groups.note_name.Goals as goal

pub returns-clause-seen : goal.returns-clause-seen
returns-clause-seen c q =
    let text = c.args.text.now in
    let seen = c.args.seen.now in
    let us = map string_bytes c.args.names.now.items in
    let key = c.in_ok-from_str.field-0 in
    let name = c.in_ok-from_str-2.field-0 in
    let more = btree_set_updates_text (string_bytes key) seen c.insert.new.self true c.in_ok-insert.ensures.updates q in
    let all : map string_bytes c.push.new.self.items ≡ us ++ text ∷ [] =
    ap (map string_bytes) c.in_ok-push.ensures.items ∙ map-append string_bytes c.args.names.now.items (name ∷ []) ∙ ap (λ s. us ++ s ∷ []) c.in_ok-from_str-2.ensures.ok in
    seen_more text us q _ _ (c.requires q) (more ∙ ap (λ s. cond (bytes_eq s q) true (contains_text seen q)) c.in_ok-from_str.ensures.ok) ∙ ap (has_text q) (sym all)
