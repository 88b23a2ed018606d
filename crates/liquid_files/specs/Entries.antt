-- What a program makes of an entry of a folder whose files it reads.
--     is_hidden_name name      the name begins with a dot
--     has_byte_zero bytes      a file of these bytes is no text
--     folder_entry way target      what the entry is: a regular file counts, itself or by a link
--                         that stays below the folder, and a folder; anything else has a reason
--     left_out_line path why      the line that tells what is left out, and why
use Rattle.std.specs.Prelude.{ℕ, Bool, ◌&&◌, ◌==◌, ◌++◌, List, codes, length, nat_lt, slice_index}
use Rattle.std.specs.List.{list_any}
use Rattle.std.specs.Path.{dot}
use Rattle.liquid_model.specs.Texts.{Text}
use Rattle.liquid_files.specs.ShownPaths.{shown_path}
use Rattle.liquid_files.specs.declared.entry.Entry.{Entry}
use Rattle.liquid_files.specs.declared.entry.Entry.TheVariants as entry
use Rattle.liquid_files.specs.declared.entry.Target.{Target}
use Rattle.liquid_files.specs.declared.entry.Target.TheVariants as target
use Rattle.liquid_files.specs.declared.entry.Way.{Way}
use Rattle.liquid_files.specs.declared.entry.Way.TheVariants as way
use Rattle.liquid_files.specs.declared.left_out.LeftOut.{LeftOut}
use Rattle.liquid_files.specs.declared.left_out.LeftOut.TheVariants as why

abbrev pub is_hidden_name : Text → Bool
is_hidden_name name = nat_lt 0 (length name) && slice_index name 0 == dot

-- images have one, and texts don't
abbrev pub has_byte_zero : List ℕ → Bool
has_byte_zero bytes = list_any (λ b. b == 0) bytes

-- ---- entries

-- an entry that is no link
abbrev pub entry_itself : Target → Entry
entry_itself target.File = entry.File
entry_itself target.Folder = entry.Folder
entry_itself target.Pipe = entry.LeftOut why.Pipe
entry_itself target.Socket = entry.LeftOut why.Socket
entry_itself target.Device = entry.LeftOut why.Device
entry_itself target.Nothing = entry.Gone
entry_itself target.Barred = entry.LeftOut why.Barred

-- a link that stays below the folder
abbrev pub entry_inside : Target → Entry
entry_inside target.Folder = entry.LinkToFolder
entry_inside target.Nothing = entry.LeftOut why.LeadsNowhere
entry_inside target = entry_itself target

-- a link that doesn't, for this reason
abbrev pub entry_elsewhere : LeftOut → Target → Entry
entry_elsewhere reason target.Nothing = entry.LeftOut why.LeadsNowhere
entry_elsewhere reason target.Barred = entry.LeftOut why.Barred
entry_elsewhere reason target = entry.LeftOut reason

abbrev pub folder_entry : Way → Target → Entry
folder_entry way.Itself target = entry_itself target
folder_entry way.Inside target = entry_inside target
folder_entry way.Outside target = entry_elsewhere why.LeadsOut target
folder_entry way.Unnamed target = entry_elsewhere why.LeadsUnnamed target

-- ---- the line

abbrev pub left_out_words : LeftOut → Text
left_out_words why.Folder = codes "is a folder"
left_out_words why.Pipe = codes "is a pipe"
left_out_words why.Socket = codes "is a socket"
left_out_words why.Device = codes "is a device"
left_out_words why.LeadsOut = codes "is a link that leads out of the folder"
left_out_words why.LeadsNowhere = codes "is a link that leads nowhere"
left_out_words why.LeadsUnnamed = codes "is a link to a path that isn't UTF-8"
left_out_words why.Barred = codes "is a link that you have no right to follow"
left_out_words why.NoText = codes "is no text: it has a byte 0"
left_out_words why.Unnamed = codes "has a name that isn't UTF-8"

-- of a name that isn't UTF-8 the path is that of its folder, since no line can show the name
abbrev pub left_out_line : Text → LeftOut → Text
left_out_line path why.Unnamed = codes "left out: a name in " ++ (shown_path path
    ++ codes " isn't UTF-8")
left_out_line path reason = codes "left out: " ++ (shown_path path
    ++ (codes " " ++ left_out_words reason))
