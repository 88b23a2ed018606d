use Rattle.std.proofs.Common.{rules, ◌≡◌, MatchOption, refl, subst}
use Rattle.std.specs.Prelude.{⊤}
use Rattle.liquid_model.specs.View.{view}
use Rattle.liquid_answers.specs.Tables.{IsAnswerStored, filter_names, said_by, site_of}
use Rattle.liquid_c.specs.Tables.{done}
use Rattle.liquid_c.proofs.answering.put_answer.Goals as goal

pub returns-in-Ok-put : goal.returns-in-Ok-put
returns-in-Ok-put c said fits =
    let same : view c.in-Ok.call ≡ view c.args.call.now = search rules in
    let given : said_by c.in-Some.answer ≡ said = subst (λ a. MatchOption a ⊤ (λ b. said_by b ≡ said)) c.in-Some.is fits in
    let put : IsAnswerStored c.args.table.now (view c.in-Ok.call) c.in-Some.answer c.put.new.self = search rules in
    let names : filter_names c.put.new.self ≡ filter_names c.args.table.now = search rules in
    let site : site_of c.put.new.self ≡ site_of c.args.table.now = search rules in
    let shop : c.put.new.self.shop ≡ c.args.table.now.shop = search rules in
    let decimals : c.put.new.self.has_decimals ≡ c.args.table.now.has_decimals = search rules in
    done refl (c.in-Some.answer, given, subst (λ d. IsAnswerStored c.args.table.now d c.in-Some.answer c.put.new.self) same put, names, (site, shop, decimals))
