use Rattle.dk_params.proofs.Lines.{opens, tags, closes, whole}
use Rattle.dk_params.proofs.page.Page.numbered_line.Goals as goal

pub open_line-requires : goal.open_line-requires
open_line-requires c = opens c.requires

pub put_numbered-requires : goal.put_numbered-requires
put_numbered-requires c = tags c.requires c.open_line.ensures

pub close_line-requires : goal.close_line-requires
close_line-requires c = closes c.requires c.open_line.ensures c.put_numbered.ensures

pub returns : goal.returns
returns c = whole c.requires c.open_line.ensures c.put_numbered.ensures c.close_line.ensures
