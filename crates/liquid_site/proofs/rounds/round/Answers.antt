use Rattle.std.proofs.Common.{◌≡◌, Some, IfSome, IfOk, IfErr, OnOk, subst}
use Rattle.liquid_model.specs.Texts.{Text}
use Rattle.liquid_site.specs.Contents.{Pages}
use Rattle.liquid_site.specs.Written.{all_written, count_from, KeepsOtherFiles, TellsUnwritten}
use Rattle.liquid_site.proofs.rounds.round.Goals as goal

-- what is said of pages and the place of their files holds of equal ones
of_equal : (P : Text → Pages → Type 0) (given out : Text) (shown all : Pages) → given ≡ out → shown ≡ all → P given shown → P out all
of_equal P given out shown all there same h = subst (λ ps. P out ps) same (subst (λ text. P text shown) there h)

pub returns-clause-written : goal.returns-clause-written
returns-clause-written g c = of_equal (λ out ps. IfSome (g.D.Disk.files c.args.disk.now) (λ f. OnOk c.write_pages-written.result (g.D.Disk.files c.write_pages-written.new.disk ≡ Some (all_written out ps f)))) _ _ _ _ c.as_str.ensures.value c.pages.ensures c.write_pages-written.ensures.written

pub returns-clause-count : goal.returns-clause-count
returns-clause-count g c = of_equal (λ out ps. IfSome (g.D.Disk.files c.args.disk.now) (λ f. IfOk c.write_pages-written.result (λ n. n ≡ count_from 0 out ps f))) _ _ _ _ c.as_str.ensures.value c.pages.ensures c.write_pages-written.ensures.count

pub returns-clause-others : goal.returns-clause-others
returns-clause-others g c = of_equal (λ out ps. IfSome (g.D.Disk.files c.args.disk.now) (λ f. KeepsOtherFiles out ps f (g.D.Disk.files c.write_pages-written.new.disk))) _ _ _ _ c.as_str.ensures.value c.pages.ensures c.write_pages-written.ensures.others

pub returns-clause-unwritten : goal.returns-clause-unwritten
returns-clause-unwritten g c = of_equal (λ out ps. IfSome (g.D.Disk.files c.args.disk.now) (λ f. IfErr c.write_pages-written.result (TellsUnwritten out ps f (g.D.Disk.files c.write_pages-written.new.disk)))) _ _ _ _ c.as_str.ensures.value c.pages.ensures c.write_pages-written.ensures.unwritten
