mod Cfgs
mod Derives
